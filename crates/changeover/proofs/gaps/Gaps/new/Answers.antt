use Rattle.std.proofs.Common.{◌≡◌, ℕ, ◌+◌, ◌*◌, refl, arith}
use Rattle.std.proofs.lemmas.Bool.{cond_both}
use Rattle.changeover.specs.Table.{among}
use Rattle.changeover.proofs.Places.{zero_at}
use Rattle.changeover.proofs.gaps.Gaps.new.Goals as goal

pub invariant_of-result : goal.invariant_of-result
invariant_of-result c = record { few = omega arith; long = refl; small = λ k. omega (arith, zero_at 1024 k) }

pub returns : goal.returns
returns c = (omega arith, refl, λ i j. cond_both (among c.args.jobs i j) _ 0 (λ (y : ℕ). y ≡ 0) (λ _. zero_at 1024 (32 * i + j)) (λ _. refl))
