use Rattle.std.proofs.Common.{arith}
use Rattle.face.specs.Readings.{bound_of, read}
use Rattle.face.specs.WhiteTrees.{but}
use Rattle.face.proofs.Whites.{but_others}
use Rattle.face.proofs.Greys.{both_outside}
use Rattle.face.proofs.grey_tree.GreyTree.remove.Goals as goal

pub returns-else-j-jobs : goal.returns-else-j-jobs
returns-else-j-jobs g c =
    let F = read c.args.reading.now in
    let j = c.args.j in
    λ S G h. both_outside F (g.W.Numbers.at (bound_of c.args.reading.now)) S G (but j S) (but j G) c.args.self.now j (omega arith) (but_others F.n j S) (but_others F.n j G) h
