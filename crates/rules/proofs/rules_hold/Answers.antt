use Rattle.rules.proofs.Sound.{rules_hold}
use Rattle.rules.proofs.rules_hold.Goals as goal

pub returns : goal.returns
returns c = rules_hold
