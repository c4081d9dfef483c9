-- The place of a job in the tree, and E(S). Assumes nothing.
use Rattle.std.specs.Prelude.{ℕ, zero, suc, ◌+◌, Bool, cond, ◌&&◌, ◌||◌, Some, None, Option, ◌==◌, nat_eq, nat_lt}
use Rattle.theta_nodes.specs.Leaves.{Leaf, nothing_here, white_here, white_root}
use Rattle.rules.specs.Faces.{Face, earliest_finish}

-- i comes before j: by a key, or where the keys are equal by card
abbrev pub before_by : (ℕ → ℕ) → ℕ → ℕ → Bool
before_by key i j = nat_lt (key i) (key j) || (key i == key j && nat_lt i j)

-- how many of 0, 1, .. n - 1 pass a test
unfoldable pub count : (ℕ → Bool) → ℕ → ℕ
count test zero = 0
count test (suc k) = cond (test k) 1 0 + count test k

-- the place of job j: how many jobs have a smaller early end, or an equal one and a lower card
unfoldable pub place : Face → ℕ → ℕ
place F j = count (λ k. before_by F.early k j) F.n

-- the first of 0, 1, .. n - 1 that passes a test
unfoldable pub first_such : (ℕ → Bool) → ℕ → Option ℕ
first_such test zero = None
first_such test (suc k) = elim (first_such test k) [ Some j ↦ Some j | None ↦ cond (test k) (Some k) None ]

-- the leaf of a job of S, and nothing for any other job
abbrev pub leaf_of : Face → (ℕ → Bool) → Option ℕ → Leaf
leaf_of F S None = nothing_here
leaf_of F S (Some j) = cond (S j) (white_here (F.duration j) (earliest_finish F j)) nothing_here

-- the leaves with just the jobs of S at their places
unfoldable pub leaves : Face → (ℕ → Bool) → ℕ → Leaf
leaves F S p = leaf_of F S (first_such (λ j. nat_eq (place F j) p) F.n)

-- E(S): the finish at the root with just the jobs of S at their places
unfoldable pub E : Face → (ℕ → ℕ) → (ℕ → Bool) → Option ℕ
E F b S = (white_root b (leaves F S)).finish
