use Rattle.std.proofs.Common.{suc, refl, ◌∙◌, arith, length-set}
use Rattle.theta.specs.Tree.{above, climbed}
use Rattle.theta.proofs.Builts.{replaced_other}
use Rattle.theta.proofs.Climbs.{above_small, five, under_five, next_above, next_climbed, all_climbed}
use Rattle.theta.proofs.tree.replace.Goals as goal

pub loop-at-init : goal.loop-at-init
unfolding above climbed
loop-at-init g c = (0, omega arith, refl, refl, refl)

pub rejoin-requires : goal.rejoin-requires
rejoin-requires g c =
    let a = above_small c.loop-at.invariant.0 c.args.place (omega arith) in
    record {
      size = c.loop-at.auto.nodes ∙ length-set c.args.nodes.now _ c.args.x ∙ c.requires.size;
      inner = omega (arith, c.loop-at.invariant.3);
    }

pub loop-at-preserved : goal.loop-at-preserved
loop-at-preserved g c =
    let k = c.loop-at.invariant.0 in
    let at = c.loop-at.invariant.3 in
    let more = under_five k c.args.place (omega arith) c.loop-at.invariant.1 (omega (arith, at)) in (
      suc k,
      omega (arith, more),
      omega (arith, c.loop-at.invariant.2),
      next_above k c.args.place c.loop-at.at at,
      next_climbed g.N.Node.none _ _ c.loop-at.nodes c.rejoin.new.nodes k c.args.place c.loop-at.at at c.loop-at.invariant.4 c.rejoin.ensures,
    )

pub returns : goal.returns
returns g c =
    let k = c.loop-at.invariant.0 in
    let join = g.N.Node.joined (g.W.Numbers.at c.args.b.now) in
    let at = c.loop-at.invariant.3 in
    let end = five k c.args.place (omega arith) c.loop-at.invariant.1 (omega (arith, at)) in
    let all = all_climbed g.N.Node.none join c.args.nodes.now c.loop-at.nodes k c.args.place c.args.x end c.loop-at.invariant.4 in
    record {
      six = omega (arith, end, c.loop-at.invariant.2);
      made = all;
      others = replaced_other g.N.Node.none join c.args.nodes.now c.loop-at.nodes c.args.place c.args.x all;
    }
