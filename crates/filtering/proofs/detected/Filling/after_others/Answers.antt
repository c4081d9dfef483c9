use Rattle.std.proofs.Common.{ℕ, Bool, Option, ◌∙◌, ap, rules}
use Rattle.rules.specs.Faces.{Face, latest_start}
use Rattle.rules.specs.Rules.{least_over, sum}
use Rattle.face.specs.Readings.{bound_of, read}
use Rattle.face.specs.Shown.{shown}
use Rattle.face.specs.Orders.{firsts}
use Rattle.face.specs.WhiteTrees.{but}
use Rattle.face.proofs.Fines.{fine}
use Rattle.filtering.specs.Sets.{under}
use Rattle.filtering.proofs.Fillings.{after_under, finish_small}
use Rattle.filtering.proofs.detected.Filling.after_others.Goals as goal

pub after-requires-clause-small : goal.after-requires-clause-small
after-requires-clause-small g c =
    let F = read c.args.reading.now in
    let S : ℕ → Bool = firsts F.n (latest_start F) c.fill.new.self.count in
    finish_small F (g.W.Numbers.at (bound_of c.args.reading.now)) (fine c.args.reading.now.orders.face) (but c.args.i S) c.finish_without-finish.result (c.finish_without-finish.ensures.value S c.fill.ensures.holds)

pub returns-clause-value : goal.returns-clause-value
returns-clause-value g c =
    let F = read c.args.reading.now in
    let G = shown c.face-face.result.now in
    let b = g.W.Numbers.at (bound_of c.args.reading.now) in
    let i = c.args.i in
    let q = c.fill.new.self.count in
    let finish = c.finish_without-finish.result in
    let is = c.finish_without-finish.ensures.value (firsts F.n (latest_start F) q) c.fill.ensures.holds in
    let over : Face → Option ℕ = λ X. sum finish (least_over (but i (under X c.args.limit)) (λ j. X.gap j i) X.n) in
    c.after.ensures (but i (under G c.args.limit)) (λ k r post. search rules) ∙ ap over c.face-face.ensures ∙ after_under F b q i c.args.limit c.fill.ensures.same finish is
