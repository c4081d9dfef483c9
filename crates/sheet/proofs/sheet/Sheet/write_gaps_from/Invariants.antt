use Rattle.std.proofs.Common.{◌≡◌, ℕ, ◌<◌, ◌≢◌}
use Rattle.changeover.specs.Table.{jobs_of, gap_of}
use Rattle.chain.specs.Listed.{cards}
use Rattle.sheet.specs.Shown.{book_of}
use Rattle.sheet.specs.Read.{gap_at}
use Rattle.sheet.proofs.sheet.Sheet.write_gaps_from.Given as goal

abbrev pub invariant-loop-j : goal.invariant-loop-j
invariant-loop-j l =
    (jobs_of l.gaps ≡ jobs_of l.initial.gaps)
    × ((k : ℕ) → k < l.j → gap_of l.gaps l.i k ≡ gap_at (book_of l.self).changeovers (book_of l.self).jobs (cards l.order) l.i k)
    × ((a b : ℕ) → a ≢ l.i → gap_of l.gaps a b ≡ gap_of l.initial.gaps a b)
