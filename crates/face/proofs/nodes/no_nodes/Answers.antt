use Rattle.std.proofs.Common.{refl}
use Rattle.face.proofs.nodes.no_nodes.Goals as goal

pub returns : goal.returns
returns g c = λ b first turned. c.clear.ensures.fresh refl b first turned
