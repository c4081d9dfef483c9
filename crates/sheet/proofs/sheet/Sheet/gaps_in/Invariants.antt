use Rattle.std.proofs.Common.{◌≡◌, ℕ, ◌<◌, length}
use Rattle.changeover.specs.Table.{jobs_of, gap_of}
use Rattle.chain.specs.Listed.{cards}
use Rattle.sheet.specs.Shown.{book_of}
use Rattle.sheet.specs.Read.{gap_at}
use Rattle.sheet.proofs.sheet.Sheet.gaps_in.Given as goal

abbrev pub invariant-loop-i : goal.invariant-loop-i
invariant-loop-i l =
    (jobs_of l.gaps ≡ length (cards l.order))
    × ((a b : ℕ) → a < l.i → b < length (cards l.order) → gap_of l.gaps a b ≡ gap_at (book_of l.self).changeovers (book_of l.self).jobs (cards l.order) a b)
