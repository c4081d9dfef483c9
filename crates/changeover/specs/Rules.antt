-- What the numbers of least gap and shortest walk are, as the rule says it: with no value in the place of "no candidate".
-- Assumes nothing.
use Rattle.std.specs.Prelude.{◌≡◌, ℕ, ◌+◌, ◌*◌, ◌<◌, ◌≤◌, ◌≢◌}

-- x is the least gap between two different jobs: no such gap is less, and one of them is x
pub record LeastGapOf (n : ℕ) (gap : ℕ → ℕ → ℕ) (x : ℕ) : Type 0 where
  pub no_less : (i j : ℕ) → i < n → j < n → i ≢ j → x ≤ gap i j
  pub one_is : (i : ℕ) × (j : ℕ) × (i < n) × (j < n) × (i ≢ j) × (x ≡ gap i j)

-- the numbers of the least gap: e times the least gap between two different jobs
pub record LeastGapRule (n : ℕ) (gap : ℕ → ℕ → ℕ) (b : ℕ → ℕ) : Type 0 where
  pub step : ℕ
  pub least : 2 ≤ n → LeastGapOf n gap step
  pub numbers : (e : ℕ) → e < n → b e ≡ e * step

-- x is the least f i over the jobs i of which P holds: none of them is less, and one of them is x
pub record LeastOver (n : ℕ) (P : ℕ → Type 0) (f : ℕ → ℕ) (x : ℕ) : Type 0 where
  pub no_less : (i : ℕ) → i < n → P i → x ≤ f i
  pub one_is : (i : ℕ) × (i < n) × P i × (x ≡ f i)

-- the numbers of the shortest walk, from w: w(0, j) = 0, w(e + 1, j) is the least w(e, i) + gap(i, j) over i other than j,
-- and b(e) is the least w(e, j)
pub record ShortestWalkRule (n : ℕ) (gap : ℕ → ℕ → ℕ) (b : ℕ → ℕ) : Type 0 where
  pub w : ℕ → ℕ → ℕ
  pub start : (j : ℕ) → w 0 j ≡ 0
  pub longer : (e j : ℕ) → e + 1 < n → j < n → LeastOver n (λ i. i ≢ j) (λ i. w e i + gap i j) (w (e + 1) j)
  pub numbers : (e : ℕ) → e < n → LeastOver n (λ _. Unit {0}) (w e) (b e)
