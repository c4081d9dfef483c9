-- The job book of two jobs is within the limits. Assumes nothing.
use Rattle.std.proofs.Common.{ℕ, zero, suc, ◌+◌, ◌<◌, ◌≤◌, arith}
use Rattle.rules.specs.Plans.{Jobs, Limits}
use Rattle.examples.specs.Books.{two_jobs}

-- what holds of both jobs holds of each job of the book
both : (P : ℕ → Type 0) → P 0 → P 1 → (j : ℕ) → j < 2 → P j
both P first second zero h = first
both P first second (suc zero) h = second
both P first second (suc (suc j)) h = absurd (omega arith)

pub two_jobs_limits : Limits (two_jobs 11)
two_jobs_limits =
    let J : Jobs = two_jobs 11 in
    record {
      few = omega arith;
      lasts = both (λ j. (1 ≤ J.duration j) × (J.duration j ≤ 100000)) (omega arith, omega arith) (omega arith, omega arith);
      wide = both (λ j. J.early j + J.duration j ≤ J.late j) (omega arith) (omega arith);
      closes = both (λ j. J.late j ≤ 1000000) (omega arith) (omega arith);
      triangle = λ i k j hi hk hj.
          both (λ i. J.changeover i j ≤ J.changeover i k + J.changeover k j)
          (both (λ k. J.changeover 0 j ≤ J.changeover 0 k + J.changeover k j)
          (both (λ j. J.changeover 0 j ≤ J.changeover 0 0 + J.changeover 0 j) (omega arith) (omega arith) j hj)
          (both (λ j. J.changeover 0 j ≤ J.changeover 0 1 + J.changeover 1 j) (omega arith) (omega arith) j hj) k hk)
          (both (λ k. J.changeover 1 j ≤ J.changeover 1 k + J.changeover k j)
          (both (λ j. J.changeover 1 j ≤ J.changeover 1 0 + J.changeover 0 j) (omega arith) (omega arith) j hj)
          (both (λ j. J.changeover 1 j ≤ J.changeover 1 1 + J.changeover 1 j) (omega arith) (omega arith) j hj) k hk) i hi;
    }
