use Rattle.std.proofs.Common.{◌<◌}
use Rattle.theta_nodes.specs.Grey.{turned_grey}
use Rattle.face.specs.Readings.{bound_of, read}
use Rattle.face.proofs.Fines.{fine}
use Rattle.face.proofs.Greys.{both_remove}
use Rattle.face.proofs.grey_tree.GreyTree.remove_job.Goals as goal

pub returns : goal.returns
returns g c =
    let R = c.args.reading.now in
    let j = c.args.j in
    let inside : j < (read R).n = c.requires in
    λ S G h. both_remove (read R) (g.W.Numbers.at (bound_of c.args.reading.now)) (fine R.orders.face).few S G c.args.self.now _ j c.place.result inside (c.place.ensures.value inside) (c.drop.ensures.fresh turned_grey) h
