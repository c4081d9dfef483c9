use Rattle.std.proofs.Common.{rules}
use Rattle.rules.specs.Faces.{earliest_finish}
use Rattle.face.specs.Shown.{shown}
use Rattle.face.proofs.reading.calls.by_earliest_finish.Goals as goal

pub returns : goal.returns
returns c = c.order.ensures (shown c.args.face.now).n (earliest_finish (shown c.args.face.now)) (c.of.ensures (earliest_finish (shown c.args.face.now)) (λ j x p. search rules))
