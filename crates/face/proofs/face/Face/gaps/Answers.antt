use Rattle.std.proofs.Common.{refl}
use Rattle.face.specs.Shown.{shown}
use Rattle.face.proofs.face.Face.gaps.Goals as goal

pub returns : goal.returns
unfolding shown
returns c = record { jobs = refl; gaps = refl }
