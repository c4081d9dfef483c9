use Rattle.std.proofs.Common.{◌≡◌, ℕ, ◌<◌, false, length, set, Option, refl, ap, ◌∙◌, arith, length-set, rules}
use Rattle.rules.specs.Faces.{Face}
use Rattle.rules.specs.Rules.{or_zero, least_over, sum, after, up_to}
use Rattle.face.specs.Readings.{bound_of, read}
use Rattle.face.specs.Shown.{shown}
use Rattle.face.specs.WhiteTrees.{but}
use Rattle.face.proofs.Fines.{fine}
use Rattle.face.proofs.Greys.{both_same}
use Rattle.filtering.specs.Edges.{flagged}
use Rattle.filtering.proofs.Fillings.{finish_small, or_zero_is}
use Rattle.filtering.proofs.Crowds.{count_fewer, out_white, out_grey, fewer_apart, moved_more, pushed_is}
use Rattle.filtering.proofs.edges.Edges.resolve.Goals as goal

pub after-requires-clause-small : goal.after-requires-clause-small
after-requires-clause-small g c =
    let F = read c.args.reading.now in
    let b = g.W.Numbers.at (bound_of c.args.reading.now) in
    finish_small F b (fine c.args.reading.now.orders.face) (up_to F c.args.j) c.latest-finish.result.white (c.latest-finish.ensures.white (up_to F c.args.j) (flagged c.args.self.now.grey) c.requires.apart c.requires.holds)

pub loop-i-smaller : goal.loop-i-smaller
loop-i-smaller g c =
    let found = c.in-Some.ensures in
    let few = (fine c.args.reading.now.orders.face).few in
    count_fewer c.loop-i.self.grey c.in-Some.i 32 (omega (arith, found.0, c.loop-i.invariant.0)) (omega (arith, found.0)) found.1

pub loop-i-preserved : goal.loop-i-preserved
loop-i-preserved g c =
    let F = read c.args.reading.now in
    let b = g.W.Numbers.at (bound_of c.args.reading.now) in
    let j = c.args.j in
    let greys = c.loop-i.self.grey in
    let apart = c.loop-i.invariant.2.apart in
    let found = c.in-Some.ensures in
    let i = c.in-Some.i in
    let few = (fine c.args.reading.now.orders.face).few in
    let inside : i < 32 = omega (arith, found.0) in
    let long : i < length greys = omega (arith, c.loop-i.invariant.0) in
    let finish = c.latest-finish.ensures.white (up_to F j) (flagged c.args.self.now.grey) c.requires.apart c.requires.holds in
    let over : Face → Option ℕ = λ X. sum c.latest-finish.result.white (least_over (up_to X j) (λ k. X.gap k i) X.n) in
    let is : c.unwrap_or.result ≡ or_zero (after F b (up_to F j) i) = c.unwrap_or.ensures ∙ or_zero_is c.after.result ∙ ap or_zero (c.after.ensures (up_to (shown c.face-face.result.now) j) (λ k r post. search rules) ∙ ap over c.face-face.ensures) ∙ pushed_is F b j i c.latest-finish.result.white (least_over (up_to F j) (λ k. F.gap k i) F.n) finish refl in (
      length-set greys i false ∙ c.loop-i.invariant.0,
      length-set c.loop-i.self.early i c.unwrap_or.result ∙ c.loop-i.invariant.1,
      record { calm = c.requires.calm; apart = fewer_apart F b j (up_to F j) greys i long apart; holds = both_same F b (but i (up_to F j)) (but i (flagged greys)) (up_to F j) (flagged (set greys i false)) c.remove.new.self (out_white F b j (up_to F j) (flagged greys) i found.0 found.1 apart) (out_grey F b j greys i long) (c.remove.ensures (up_to F j) (flagged greys) c.loop-i.invariant.2.holds) },
      moved_more F b j c.args.self.now.grey greys c.args.self.now.early c.loop-i.self.early i c.unwrap_or.result c.loop-i.invariant.0 c.loop-i.invariant.1 inside found.0 found.1 found.2 is c.loop-i.invariant.3,
    )
