-- When a tree of white leaves holds the jobs of a set. Assumes nothing.
use Rattle.std.specs.Prelude.{◌≡◌, ℕ, Bool, not, ◌&&◌, ◌==◌}
use Rattle.theta.specs.Tree.{row}
use Rattle.theta.specs.Runs.{Run, leaves_after, Stands}
use Rattle.theta_nodes.specs.declared.white.White.{White}
use Rattle.theta_nodes.specs.White.{empty_white, white_join}
use Rattle.theta_nodes.specs.Leaves.{in_white}
use Rattle.rules.specs.Faces.{Face as Shown}
use Rattle.rules.specs.Places.{leaves}
use Rattle.face.specs.declared.white_tree.WhiteTree.{WhiteTree}

-- the tree stands after a run of calls that leaves just the jobs of S at their places
pub record Holds (F : Shown) (b : ℕ → ℕ) (S : ℕ → Bool) (T : WhiteTree) : Type 0 where
  pub run : Run White
  pub stands : Stands empty_white (λ _ x. x) (λ x. x) (white_join b) T.nodes run
  pub leaves_are : leaves_after empty_white (λ _ x. x) (λ x. x) (white_join b) run ≡ row (λ p. in_white (leaves F S p))

-- S without i
abbrev pub but : ℕ → (ℕ → Bool) → ℕ → Bool
but i S k = not (k == i) && S k
