-- When a tree of white and grey leaves holds the jobs of two sets. Assumes nothing.
use Rattle.std.specs.Prelude.{◌≡◌, ℕ, ◌<◌, ◌≤◌, Bool, true, false, cond, Some, None, Option, nat_eq}
use Rattle.theta.specs.Tree.{row}
use Rattle.theta.specs.Runs.{Run, leaves_after, Stands}
use Rattle.theta_nodes.specs.declared.grey.Grey.{Grey}
use Rattle.theta_nodes.specs.Grey.{rank, empty_grey, turned_grey, grey_placed, grey_join}
use Rattle.theta_nodes.specs.Leaves.{Leaf, nothing_here, white_here, grey_here, in_grey}
use Rattle.rules.specs.Faces.{Face as Shown, earliest_finish}
use Rattle.rules.specs.Places.{place, first_such, E}
use Rattle.rules.specs.Rules.{with_job}
use Rattle.face.specs.declared.grey_tree.GreyTree.{GreyTree}

-- the leaf of a job of G, grey, or of a job of S, white, and nothing for any other job
abbrev pub mixed_leaf : Shown → (ℕ → Bool) → (ℕ → Bool) → Option ℕ → Leaf
mixed_leaf F S G None = nothing_here
mixed_leaf F S G (Some j) =
    cond (G j) (grey_here (F.duration j) (earliest_finish F j)) (cond (S j) (white_here (F.duration j) (earliest_finish F j)) nothing_here)

-- the leaves with the jobs of S white and those of G grey at their places
unfoldable pub mixed_leaves : Shown → (ℕ → Bool) → (ℕ → Bool) → ℕ → Leaf
mixed_leaves F S G p = mixed_leaf F S G (first_such (λ j. nat_eq (place F j) p) F.n)

-- the tree stands after a run of calls that leaves the jobs of S white and those of G grey at their places
pub record HoldsBoth (F : Shown) (b : ℕ → ℕ) (S G : ℕ → Bool) (T : GreyTree) : Type 0 where
  pub run : Run Grey
  pub stands : Stands empty_grey grey_placed turned_grey (grey_join b) T.nodes run
  pub leaves_are : leaves_after empty_grey grey_placed turned_grey (grey_join b) run ≡ row (λ p. grey_placed p (in_grey (mixed_leaves F S G p)))

-- no job is both white and grey
abbrev pub Apart : Shown → (ℕ → Bool) → (ℕ → Bool) → Type 0
Apart F S G = (j : ℕ) → j < F.n → G j ≡ true → S j ≡ false

-- what the tree tells of the white jobs S and the grey jobs G: when the white ones finish, the greatest finish with one grey
-- job more, and a grey job that gives it where it is later
abbrev pub Blames : Shown → (ℕ → ℕ) → (ℕ → Bool) → (ℕ → Bool) → Option ℕ → Option ℕ → Type 0
Blames F b S G late None = late ≡ E F b S
Blames F b S G late (Some i) = (i < F.n) × (G i ≡ true) × (E F b (with_job i S) ≡ late)

pub record TellsJobs (F : Shown) (b : ℕ → ℕ) (S G : ℕ → Bool) (late : Option ℕ) (who : Option ℕ) : Type 0 where
  pub all : (i : ℕ) → i < F.n → G i ≡ true → rank (E F b (with_job i S)) ≤ rank late
  pub blames : Blames F b S G late who
