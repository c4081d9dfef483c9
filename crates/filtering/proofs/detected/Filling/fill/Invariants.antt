use Rattle.std.proofs.Common.{◌≡◌}
use Rattle.rules.specs.Faces.{latest_start}
use Rattle.face.specs.Readings.{bound_of, read}
use Rattle.face.specs.Orders.{firsts}
use Rattle.face.specs.WhiteTrees.{Holds}
use Rattle.filtering.proofs.Fillings.{Low}
use Rattle.filtering.proofs.detected.Filling.fill.Given as goal

abbrev pub invariant-loop-q : goal.invariant-loop-q
invariant-loop-q g l =
    (l.self.count ≡ l.q)
    × Holds (read l.reading) (g.W.Numbers.at (bound_of l.reading)) (firsts (read l.reading).n (latest_start (read l.reading)) l.q) l.self.tree
    × Low (read l.reading) l.q l.limit
