use Rattle.std.proofs.Common.{⊎_elim, sym, subst}
use Rattle.std.proofs.lemmas.Bool.{cases_lt}
use Rattle.rules.specs.Rules.{with_job}
use Rattle.face.specs.Readings.{bound_of, read}
use Rattle.face.specs.WhiteTrees.{Holds}
use Rattle.face.proofs.Fines.{fine}
use Rattle.face.proofs.Whites.{holds_enter, holds_outside}
use Rattle.face.proofs.white_tree.WhiteTree.enter.Goals as goal

pub returns : goal.returns
returns g c =
    let R = c.args.reading.now in
    let F = read R in
    let b = g.W.Numbers.at (bound_of R) in
    let few = (fine R.orders.face).few in
    let T = c.args.self.now in
    let j = c.args.j in
    λ S h.
    ⊎_elim
    (λ inside. holds_enter F b few S T _ j inside (c.put_job.ensures.job inside (λ x. x)) h)
    (λ out. subst (λ xs. Holds F b (with_job j S) (record { nodes = xs })) (sym (c.put_job.ensures.outside out)) (holds_outside F b few S T j out h))
    (cases_lt j F.n)
