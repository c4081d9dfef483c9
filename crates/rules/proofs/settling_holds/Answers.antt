use Rattle.rules.proofs.Sound.{rules_hold, turning_holds}
use Rattle.rules.proofs.Settlings.{settling_holds}
use Rattle.rules.proofs.settling_holds.Goals as goal

pub returns : goal.returns
returns c = settling_holds rules_hold turning_holds
