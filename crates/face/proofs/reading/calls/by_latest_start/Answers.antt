use Rattle.std.proofs.Common.{rules}
use Rattle.rules.specs.Faces.{latest_start}
use Rattle.face.specs.Shown.{shown}
use Rattle.face.proofs.reading.calls.by_latest_start.Goals as goal

pub returns : goal.returns
returns c = c.order.ensures (shown c.args.face.now).n (latest_start (shown c.args.face.now)) (c.of.ensures (latest_start (shown c.args.face.now)) (λ j x p. search rules))
