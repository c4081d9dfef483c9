use Rattle.std.proofs.Common.{◌≡◌, ℕ, ◌<◌}
use Rattle.changeover.specs.Table.{jobs_of, gap_of}
use Rattle.face.proofs.face.make.turned_gaps.Given as goal

abbrev pub invariant-loop-i : goal.invariant-loop-i
invariant-loop-i l = (jobs_of l.to ≡ jobs_of l.gaps) × ((a b : ℕ) → a < l.i → gap_of l.to a b ≡ gap_of l.gaps b a)
