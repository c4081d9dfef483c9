use Rattle.std.proofs.Common.{rules}
use Rattle.face.specs.Shown.{shown}
use Rattle.face.proofs.reading.calls.by_late.Goals as goal

pub returns : goal.returns
returns c = c.order.ensures (shown c.args.face.now).n (shown c.args.face.now).late (c.of.ensures (shown c.args.face.now).late (λ j x p. search rules))
