-- The leaves of a tree in the words of who puts them: at each place nothing, a white leaf or a grey one. Assumes nothing.
use Rattle.std.specs.Prelude.{ℕ, ◌≤◌, Bool, true, false, cond, List, ◌==◌, slice_index_or}
use Rattle.theta_nodes.specs.declared.white.White.{White}
use Rattle.theta_nodes.specs.declared.grey.Grey.{Grey}
use Rattle.theta_nodes.specs.White.{empty_white, white_leaf, white_join}
use Rattle.theta_nodes.specs.Grey.{empty_grey, white_leaf_in, grey_leaf, grey_placed, grey_join}
use Rattle.theta.specs.Tree.{grown, row}

-- nothing, or a leaf of a duration and an earliest finish
pub data Leaf : Type 0 where
  nothing_here : Leaf
  white_here : ℕ → ℕ → Leaf
  grey_here : ℕ → ℕ → Leaf

-- a duration is 1 to 100,000, an earliest finish at most 1,000,000
abbrev pub InLimits : Leaf → Type 0
InLimits nothing_here = Unit {0}
InLimits (white_here d f) = (1 ≤ d) × (d ≤ 100000) × (f ≤ 1000000)
InLimits (grey_here d f) = (1 ≤ d) × (d ≤ 100000) × (f ≤ 1000000)

-- whether the leaf is grey
abbrev pub is_grey : Leaf → Bool
is_grey nothing_here = false
is_grey (white_here d f) = false
is_grey (grey_here d f) = true

-- what the leaf lasts
abbrev pub duration : Leaf → ℕ
duration nothing_here = 0
duration (white_here d f) = d
duration (grey_here d f) = d

-- a grey leaf made white
abbrev pub whitened : Leaf → Leaf
whitened nothing_here = nothing_here
whitened (white_here d f) = white_here d f
whitened (grey_here d f) = white_here d f

-- the leaves, with the one of place g made white
abbrev pub with_white : ℕ → (ℕ → Leaf) → ℕ → Leaf
with_white g leaves p = cond (p == g) (whitened (leaves p)) (leaves p)

-- the node of a leaf in a tree of white leaves, in which a grey one is left out
abbrev pub in_white : Leaf → White
in_white nothing_here = empty_white
in_white (white_here d f) = white_leaf d f
in_white (grey_here d f) = empty_white

-- the node of a leaf in a tree of white and grey leaves
abbrev pub in_grey : Leaf → Grey
in_grey nothing_here = empty_grey
in_grey (white_here d f) = white_leaf_in d f
in_grey (grey_here d f) = grey_leaf d f

-- the root of the tree of the white leaves alone
unfoldable pub white_root : (ℕ → ℕ) → (ℕ → Leaf) → White
white_root b leaves = slice_index_or (grown (white_join b) (row (λ p. in_white (leaves p)))) 0 empty_white

-- the tree of the white and grey leaves, each told its place
unfoldable pub grey_tree : (ℕ → ℕ) → (ℕ → Leaf) → List Grey
grey_tree b leaves = grown (grey_join b) (row (λ p. grey_placed p (in_grey (leaves p))))
