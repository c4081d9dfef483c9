use Rattle.rules.proofs.Sound.{turning_holds}
use Rattle.rules.proofs.turning_holds.Goals as goal

pub returns : goal.returns
returns c = turning_holds
