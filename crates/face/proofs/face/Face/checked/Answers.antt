use Rattle.std.proofs.Common.{sym, refl, ◌∙◌, arith}
use Rattle.std.proofs.lemmas.List.{length-take}
use Rattle.face.specs.Shown.{shown}
use Rattle.face.proofs.Alike.{limits_of_firsts}
use Rattle.face.proofs.face.Face.checked.Goals as goal

pub returns : goal.returns
unfolding shown
returns c = ((λ j h. sym (limits_of_firsts c.jobs.result c.args.jobs (omega arith) j (omega arith)) ∙ c.if-not-all_in_limits.ensures j (omega (arith, length-take c.jobs.result c.args.jobs))), refl)
