-- Sets of jobs as the rules hold them: as a test, and as the jobs of a tree. Assumes nothing.
use Rattle.std.specs.Prelude.{◌≡◌, ℕ, ◌<◌, ◌≤◌, Bool, Some, None, Option, nat_lt}
use Rattle.rules.specs.Faces.{Face, latest_start}
use Rattle.face.specs.Orders.{firsts}
use Rattle.face.specs.declared.white_tree.WhiteTree.{WhiteTree}
use Rattle.face.specs.WhiteTrees.{Holds}

-- the jobs that have to start before a limit
abbrev pub under : Face → ℕ → ℕ → Bool
under F limit k = nat_lt (latest_start F k) limit

-- the tree holds the q first jobs by latest start, and these are the ones that have to start before a limit
pub record Filled (F : Face) (b : ℕ → ℕ) (q limit : ℕ) (T : WhiteTree) : Type 0 where
  pub holds : Holds F b (firsts F.n (latest_start F) q) T
  pub same : (k : ℕ) → k < F.n → under F limit k ≡ firsts F.n (latest_start F) q k

-- the tree is filled up to some limit that is not above this one
abbrev pub FilledBelow : Face → (ℕ → ℕ) → ℕ → ℕ → WhiteTree → Type 0
FilledBelow F b q limit T = (low : ℕ) × (low ≤ limit) × Filled F b q low T

-- none, or a number of at most so many minutes
abbrev pub AtMost : ℕ → Option ℕ → Type 0
AtMost most None = Unit {0}
AtMost most (Some x) = x ≤ most
