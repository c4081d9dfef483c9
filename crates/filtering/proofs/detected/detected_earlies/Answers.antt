use Rattle.std.proofs.Common.{◌≡◌, refl, ap, ◌∙◌, arith}
use Rattle.rules.specs.Faces.{earliest_finish}
use Rattle.rules.specs.Rules.{detected_early}
use Rattle.face.specs.Readings.{bound_of, read}
use Rattle.face.specs.Orders.{HasRank}
use Rattle.face.proofs.Fines.{fine}
use Rattle.filtering.proofs.Fillings.{progress_none, progress_more, progress_all, detected_is, or_zero_is}
use Rattle.filtering.proofs.detected.detected_earlies.Goals as goal

pub loop-t-init : goal.loop-t-init
loop-t-init g c =
    let F = read c.args.reading.now in
    let b = g.W.Numbers.at (bound_of c.args.reading.now) in
    progress_none F b (earliest_finish F) (detected_early F b) _ c.new-filling.result.count c.new-filling.result.tree refl (c.new-filling.ensures F b (g.met.W.Numbers.first (bound_of c.args.reading.now)))

pub loop-t-preserved : goal.loop-t-preserved
loop-t-preserved g c =
    let F = read c.args.reading.now in
    let b = g.W.Numbers.at (bound_of c.args.reading.now) in
    let i = c.finishing_job-i.result in
    let limit = c.earliest_finish-limit.result in
    let at : HasRank F.n (earliest_finish F) c.loop-t.t i = c.finishing_job-i.ensures.job (omega (arith, ap (λ x. x.n) c.face.ensures)) in
    let is : limit ≡ earliest_finish F i = c.earliest_finish-limit.ensures.value ∙ ap (λ x. earliest_finish x i) c.face-in-loop-t.ensures in
    let value = c.unwrap_or.ensures ∙ or_zero_is c.after_others.result ∙ detected_is F b i limit c.after_others.result is c.after_others.ensures.value in
    progress_more F b (earliest_finish F) (detected_early F b) c.loop-t.t i limit c.loop-t.filling.count c.loop-t.early c.loop-t.filling.tree at is c.loop-t.invariant c.unwrap_or.result c.after_others.new.self.count c.after_others.new.self.tree (fine c.args.reading.now.orders.face) value c.after_others.ensures.filled

pub returns : goal.returns
returns g c =
    let F = read c.args.reading.now in
    let b = g.W.Numbers.at (bound_of c.args.reading.now) in
    progress_all F b (earliest_finish F) (detected_early F b) c.loop-t.t c.loop-t.early c.loop-t.filling.count c.loop-t.filling.tree (omega (arith, ap (λ x. x.n) c.face.ensures)) c.loop-t.invariant
