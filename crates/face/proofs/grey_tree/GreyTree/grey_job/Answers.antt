use Rattle.std.proofs.Common.{◌<◌}
use Rattle.face.specs.Readings.{bound_of, read}
use Rattle.face.proofs.Fines.{fine}
use Rattle.face.proofs.Greys.{both_grey}
use Rattle.face.proofs.grey_tree.GreyTree.grey_job.Goals as goal

pub returns : goal.returns
returns g c =
    let R = c.args.reading.now in
    let j = c.args.j in
    let inside : j < (read R).n = c.requires in
    λ S G t h. both_grey (read R) (g.W.Numbers.at (bound_of c.args.reading.now)) (fine R.orders.face).few S G c.args.self.now _ j c.place.result inside (c.place.ensures.value inside) t c.grey.ensures.fresh h
