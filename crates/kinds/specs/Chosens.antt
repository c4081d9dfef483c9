-- The laws of bounds that are chosen as a program runs. Assumes nothing.
use Rattle.std.specs.Prelude.{◌≡◌, ℕ, ◌≤◌, refl}
use Rattle.std.proofs.Common.{arith}
use Rattle.std.proofs.lemmas.List.{get_or_past}
use Rattle.changeover.specs.Rows.{Lawful}
use Rattle.changeover.specs.Laws.{multiples_lawful, walk_lawful, multiples_small, below_past}
use Rattle.kinds.specs.declared.kind.Kind.{Kind}
use Rattle.kinds.specs.declared.kind.Kind.TheVariants.{NoBound, LeastGap, ShortestWalk}
use Rattle.kinds.specs.declared.kind.KindNumbers.{KindNumbers}
use Rattle.kinds.specs.declared.kind.KindNumbers.TheVariants.{None, Least, Walk}
use Rattle.kinds.specs.Chosen.{kind_at, numbers_at}

pub kind_lawful : (kind : Kind) (n : ℕ) (gap : ℕ → ℕ → ℕ) → Lawful n gap (kind_at kind n gap)
kind_lawful NoBound n gap = record { past = λ e h. refl; under = λ e row r. omega arith }
kind_lawful LeastGap n gap = multiples_lawful n gap
kind_lawful ShortestWalk n gap = walk_lawful n gap

pub numbers_bounded : (b : KindNumbers) (e : ℕ) → numbers_at b e ≤ 400000
numbers_bounded (None b) e = omega arith
numbers_bounded (Least b) e = multiples_small b.jobs b.step e b.few b.small
numbers_bounded (Walk b) e = b.small e

pub numbers_past : (b : KindNumbers) (e : ℕ) → 32 ≤ e → numbers_at b e ≡ 0
numbers_past (None b) e h = refl
numbers_past (Least b) e h = below_past b.jobs e _ (omega (arith, b.few))
numbers_past (Walk b) e h = get_or_past b.places e 0 (omega (arith, b.long))
