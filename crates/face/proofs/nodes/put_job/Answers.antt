use Rattle.std.proofs.Common.{refl, subst, arith}
use Rattle.theta.specs.Runs.{puts, Follows}
use Rattle.face.specs.Readings.{bound_of}
use Rattle.face.proofs.Fines.{leaf_there, no_leaf_there}
use Rattle.face.proofs.nodes.put_job.Goals as goal

-- the search finds `job` too, but takes eleven seconds for it
pub returns-in-Ok : goal.returns-in-Ok
returns-in-Ok g c =
    let R = c.args.reading.now in
    let b = g.W.Numbers.at (bound_of R) in
    let made = leaf_there R.orders.face c.args.j c.in-Ok.leaf _ c.in-Ok.ensures in
    record {
      job = λ inside turned. subst (Follows g.N.Node.none g.N.Node.placed turned (g.N.Node.joined b) c.args.nodes.now c.put.new.nodes) (λ r. puts (c.place.ensures.value inside r) (made.1 r)) (c.put.ensures.fresh turned);
      outside = λ out. absurd (omega (arith, made.0));
    }

pub returns-in_default : goal.returns-in_default
returns-in_default g c =
    let out = no_leaf_there c.args.reading.now.orders.face c.args.j _ c.in_default.field-0 c.in_default.ensures in
    record { job = λ inside turned. absurd (omega (arith, out)); outside = λ _. refl }
