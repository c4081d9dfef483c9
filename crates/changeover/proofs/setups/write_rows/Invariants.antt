use Rattle.std.proofs.Common.{◌≡◌, ℕ, ◌+◌, ◌*◌, ◌<◌, min, get_or}
use Rattle.changeover.specs.Table.{jobs_of, gap_of}
use Rattle.changeover.proofs.setups.write_rows.Given as goal

abbrev pub invariant-loop-k : goal.invariant-loop-k
invariant-loop-k l =
    (jobs_of l.gaps ≡ l.width)
    × ((i j : ℕ) → i < l.width → j < l.width → l.width * i + j < l.k → gap_of l.gaps i j ≡ min (get_or l.numbers (l.width * i + j) 0) 12000)
