-- The limits of a job. Assumes nothing.
use Rattle.std.specs.Prelude.{◌≡◌, ℕ, ◌+◌, ◌<◌, Bool, true, ◌&&◌, nat_le}

-- 1 to 100,000 minutes, in a window that is long enough and ends by H
abbrev pub in_limits : ℕ → ℕ → ℕ → Bool
in_limits duration early late = nat_le 1 duration && (nat_le duration 100000 && (nat_le (early + duration) late && nat_le late 1000000))

-- each of n jobs is in its limits
abbrev pub AllIn : ℕ → (ℕ → ℕ) → (ℕ → ℕ) → (ℕ → ℕ) → Type 0
AllIn n early late duration = (j : ℕ) → j < n → in_limits (duration j) (early j) (late j) ≡ true
