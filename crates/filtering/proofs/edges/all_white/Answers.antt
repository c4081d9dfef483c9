use Rattle.std.proofs.Common.{◌+◌, false, ltb, sym, ap, ◌∙◌, arith}
use Rattle.std.proofs.lemmas.Bool.{lt-ltb}
use Rattle.rules.specs.Rules.{with_job}
use Rattle.face.specs.Readings.{bound_of, read}
use Rattle.face.specs.WhiteTrees.{but}
use Rattle.face.proofs.Greys.{both_same}
use Rattle.filtering.proofs.Crowds.{below_with, none_without}
use Rattle.filtering.proofs.edges.all_white.Goals as goal

pub loop-j-preserved : goal.loop-j-preserved
loop-j-preserved g c =
    let F = read c.args.reading.now in
    let j = c.loop-j.j in
    both_same F (g.W.Numbers.at (bound_of c.args.reading.now)) (with_job j (λ k. ltb k j)) (but j (λ _. false)) (λ k. ltb k (j + 1)) (λ _. false) c.enter.new.self (below_with F.n j) (none_without F.n j) (c.enter.ensures (λ k. ltb k j) (λ _. false) c.loop-j.invariant)

pub returns : goal.returns
returns g c =
    let F = read c.args.reading.now in
    λ S G all none.
    both_same F (g.W.Numbers.at (bound_of c.args.reading.now)) (λ k. ltb k c.loop-j.j) (λ _. false) S G c.loop-j.tree (λ k hk. all k hk ∙ sym (lt-ltb k c.loop-j.j (omega (arith, ap (λ x. x.n) c.face.ensures)))) (λ k hk. none k hk) c.loop-j.invariant
