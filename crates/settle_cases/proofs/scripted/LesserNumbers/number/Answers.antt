use Rattle.std.proofs.Common.{arith}
use Rattle.std.proofs.lemmas.List.{get_or_past}
use Rattle.settle_cases.proofs.scripted.LesserNumbers.number.Goals as goal

pub returns-else-e-lt32 : goal.returns-else-e-lt32
returns-else-e-lt32 c = let walk = c.args.self.now.walk in omega (arith, get_or_past walk.places c.args.e 0 (omega (arith, walk.long)))
