use Rattle.rules.specs.Rules.{not_last_late}
use Rattle.face.specs.Readings.{bound_of, read}
use Rattle.filtering.proofs.Fillings.{Progress}
use Rattle.filtering.proofs.detected.not_last_lates.Given as goal

abbrev pub invariant-loop-t : goal.invariant-loop-t
invariant-loop-t g l =
    let F = read l.reading in
    let b = g.W.Numbers.at (bound_of l.reading) in
    Progress F b F.late (not_last_late F b) l.t l.late l.filling.count l.filling.tree
