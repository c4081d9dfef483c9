use Rattle.std.proofs.Common.{◌≡◌, ℕ, ◌<◌, false}
use Rattle.rules.specs.Rules.{too_much}
use Rattle.face.specs.Readings.{bound_of, read}
use Rattle.face.specs.Orders.{rank, firsts}
use Rattle.face.specs.WhiteTrees.{Holds}
use Rattle.filtering.proofs.overload.first_overload.Given as goal

abbrev pub invariant-loop-t : goal.invariant-loop-t
invariant-loop-t g l =
    Holds (read l.reading) (g.W.Numbers.at (bound_of l.reading)) (firsts (read l.reading).n (read l.reading).late l.t) l.tree
    × ((k : ℕ) → k < (read l.reading).n → rank (read l.reading).n (read l.reading).late k < l.t → too_much (read l.reading) (g.W.Numbers.at (bound_of l.reading)) k ≡ false)
