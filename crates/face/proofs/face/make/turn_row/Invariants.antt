use Rattle.std.proofs.Common.{◌≡◌, ℕ, ◌<◌, ◌≢◌}
use Rattle.changeover.specs.Table.{jobs_of, gap_of}
use Rattle.face.proofs.face.make.turn_row.Given as goal

abbrev pub invariant-loop-j : goal.invariant-loop-j
invariant-loop-j l =
    (jobs_of l.to ≡ jobs_of l.initial.to)
    × ((b : ℕ) → b < l.j → gap_of l.to l.i b ≡ gap_of l.from b l.i)
    × ((a b : ℕ) → a ≢ l.i → gap_of l.to a b ≡ gap_of l.initial.to a b)
