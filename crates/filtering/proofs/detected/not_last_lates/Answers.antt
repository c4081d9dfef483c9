use Rattle.std.proofs.Common.{◌≡◌, refl, ap, ◌∙◌, arith}
use Rattle.rules.specs.Rules.{not_last_late}
use Rattle.face.specs.Readings.{bound_of, read}
use Rattle.face.specs.Orders.{HasRank}
use Rattle.face.proofs.Fines.{fine}
use Rattle.filtering.specs.Ends.{late_from}
use Rattle.filtering.proofs.Fillings.{progress_none, progress_more, progress_all, not_last_is}
use Rattle.filtering.proofs.detected.not_last_lates.Goals as goal

pub loop-t-init : goal.loop-t-init
loop-t-init g c =
    let F = read c.args.reading.now in
    let b = g.W.Numbers.at (bound_of c.args.reading.now) in
    progress_none F b F.late (not_last_late F b) _ c.new-filling.result.count c.new-filling.result.tree refl (c.new-filling.ensures F b (g.met.W.Numbers.first (bound_of c.args.reading.now)))

pub loop-t-preserved : goal.loop-t-preserved
loop-t-preserved g c =
    let F = read c.args.reading.now in
    let b = g.W.Numbers.at (bound_of c.args.reading.now) in
    let i = c.late_job-i.result in
    let limit = c.late-limit.result in
    let over = c.after_others-over.result in
    let at : HasRank F.n F.late c.loop-t.t i = c.late_job-i.ensures.job (omega (arith, ap (λ x. x.n) c.face.ensures)) in
    let is : limit ≡ F.late i = c.late-limit.ensures.value ∙ ap (λ x. x.late i) c.face-in-loop-t.ensures in
    let value = c.not_last_late.ensures ∙ ap (λ X. late_from X over i) c.face-in-loop-t-2.ensures ∙ not_last_is F b i limit over is c.after_others-over.ensures.value in
    progress_more F b F.late (not_last_late F b) c.loop-t.t i limit c.loop-t.filling.count c.loop-t.late c.loop-t.filling.tree at is c.loop-t.invariant c.not_last_late.result c.after_others-over.new.self.count c.after_others-over.new.self.tree (fine c.args.reading.now.orders.face) value c.after_others-over.ensures.filled

pub returns : goal.returns
returns g c =
    let F = read c.args.reading.now in
    let b = g.W.Numbers.at (bound_of c.args.reading.now) in
    progress_all F b F.late (not_last_late F b) c.loop-t.t c.loop-t.late c.loop-t.filling.count c.loop-t.filling.tree (omega (arith, ap (λ x. x.n) c.face.ensures)) c.loop-t.invariant
