use Rattle.std.proofs.Common.{rules}
use Rattle.theta.proofs.Runnings.{follows}
use Rattle.theta.proofs.tree.step.Goals as goal

pub returns-in_err-check_seat-clause-fresh : goal.returns-in_err-check_seat-clause-fresh
returns-in_err-check_seat-clause-fresh g c turned call =
    let b = g.W.Numbers.at c.args.b.now in
    let neutral = g.met.N.Node.left b g.N.Node.none (g.met.W.Numbers.first c.args.b.now) g.met.N.Node.nothing in
    follows g.N.Node.none (g.N.Node.joined b) g.N.Node.placed turned neutral c.args.nodes.now _ c.args.place c.args.x call (search rules)

pub returns-clause-fresh : goal.returns-clause-fresh
returns-clause-fresh g c turned call =
    let b = g.W.Numbers.at c.args.b.now in
    let neutral = g.met.N.Node.left b g.N.Node.none (g.met.W.Numbers.first c.args.b.now) g.met.N.Node.nothing in
    follows g.N.Node.none (g.N.Node.joined b) g.N.Node.placed turned neutral c.args.nodes.now _ c.args.place c.args.x call (search rules)
