use Rattle.std.proofs.Common.{⊎_elim, sym, subst}
use Rattle.std.proofs.lemmas.Bool.{cases_lt}
use Rattle.theta_nodes.specs.Grey.{turned_grey}
use Rattle.rules.specs.Rules.{with_job}
use Rattle.face.specs.Readings.{bound_of, read}
use Rattle.face.specs.WhiteTrees.{but}
use Rattle.face.specs.GreyTrees.{HoldsBoth}
use Rattle.face.proofs.Fines.{fine}
use Rattle.face.proofs.Whites.{with_others, but_others}
use Rattle.face.proofs.Greys.{both_enter, both_outside}
use Rattle.face.proofs.grey_tree.GreyTree.enter.Goals as goal

pub returns : goal.returns
returns g c =
    let R = c.args.reading.now in
    let F = read R in
    let b = g.W.Numbers.at (bound_of R) in
    let T = c.args.self.now in
    let j = c.args.j in
    λ S G h.
    ⊎_elim
    (λ inside. both_enter F b (fine R.orders.face).few S G T _ j inside (c.put_job.ensures.job inside turned_grey) h)
    (λ out. subst (λ xs. HoldsBoth F b (with_job j S) (but j G) (record { nodes = xs })) (sym (c.put_job.ensures.outside out)) (both_outside F b S G (with_job j S) (but j G) T j out (with_others F.n j S) (but_others F.n j G) h))
    (cases_lt j F.n)
