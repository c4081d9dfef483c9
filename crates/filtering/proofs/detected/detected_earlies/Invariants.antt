use Rattle.rules.specs.Faces.{earliest_finish}
use Rattle.rules.specs.Rules.{detected_early}
use Rattle.face.specs.Readings.{bound_of, read}
use Rattle.filtering.proofs.Fillings.{Progress}
use Rattle.filtering.proofs.detected.detected_earlies.Given as goal

abbrev pub invariant-loop-t : goal.invariant-loop-t
invariant-loop-t g l =
    let F = read l.reading in
    let b = g.W.Numbers.at (bound_of l.reading) in
    Progress F b (earliest_finish F) (detected_early F b) l.t l.early l.filling.count l.filling.tree
