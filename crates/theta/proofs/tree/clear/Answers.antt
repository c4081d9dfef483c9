use Rattle.std.proofs.Common.{◌≡◌, length, rules, sym, ◌∙◌, arith}
use Rattle.std.proofs.lemmas.Bool.{cond-true, eq-eqb}
use Rattle.theta.proofs.Trees.{cleared_is}
use Rattle.theta.proofs.Runnings.{begins}
use Rattle.theta.proofs.tree.clear.Goals as goal

pub returns : goal.returns
returns g c =
    let none = g.N.Node.none in
    let size : length c.args.nodes.now ≡ 63 = search rules in
    let all = cleared_is none c.loop-x.nodes (omega arith) (λ k h. c.loop-x.invariant k (omega arith)) in
    record {
      answer = search rules;
      after = all ∙ sym (cond-true _ _ _ (eq-eqb _ 63 size));
      fresh = λ _ b zero turned. begins none (g.N.Node.joined b) g.N.Node.placed turned (g.met.N.Node.left b none zero g.met.N.Node.nothing) c.loop-x.nodes all;
    }
