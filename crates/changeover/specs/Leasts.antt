-- What the laws need of `least` and `but`. Assumes nothing.
use Rattle.std.specs.Prelude.{◌≡◌, ℕ, zero, suc, ◌<◌, ◌≤◌, ◌≢◌}
use Rattle.std.proofs.Common.{ap, ⊎_elim, arith}
use Rattle.std.proofs.lemmas.Bool.{cases_eq, cond-false, ne_eqb}
use Rattle.changeover.specs.Kinds.{least, but}

pub least_under : (top n : ℕ) (f : ℕ → ℕ) (k : ℕ) → k < n → least top n f ≤ f k
least_under top zero f k h = absurd (omega arith)
least_under top (suc n) f k h =
    ⊎_elim
    (λ e. let s = ap f e in omega arith)
    (λ ne. let lt : k < n = omega arith in let u = least_under top n f k lt in omega arith)
    (cases_eq k n)

pub but_other : (top j : ℕ) (f : ℕ → ℕ) (i : ℕ) → (i ≢ j) → but top j f i ≡ f i
but_other top j f i ne = cond-false _ _ _ (ne_eqb i j ne)
