use Rattle.std.proofs.Common.{ℕ, ◌<◌, min, length, get_or, ap, arith, ◌∙◌}
use Rattle.std.proofs.lemmas.List.{get_or_append_left}
use Rattle.rules.specs.Books.{no_window}
use Rattle.rules.specs.Rules.{detected_early}
use Rattle.face.specs.Readings.{bound_of, read}
use Rattle.face.specs.Shown.{shown}
use Rattle.face.proofs.Fines.{of_job_is}
use Rattle.filtering.specs.Ends.{early_from}
use Rattle.filtering.proofs.Halving.{new_early_is, new_late_is}
use Rattle.filtering.proofs.overload.Calm.new_windows.Goals as goal

pub returns : goal.returns
returns g c =
    let F = read c.args.self.now.reading.now in
    let G = shown c.face-face.result.now in
    let b = g.W.Numbers.at (bound_of c.args.self.now.reading.now) in
    let detected : ℕ → ℕ = λ i. get_or c.detected_earlies-detected.result i 0 in
    let edge : ℕ → ℕ = λ i. get_or c.edge_earlies-edges.result i 0 in
    let not_last : ℕ → ℕ = λ i. get_or c.not_last_lates-not_last.result i 0 in
    λ i h.
    let same = c.face-face.ensures in
    let few = ap (λ X. X.n) same in
    let inside : i < length c.loop-i.window-items = omega (arith, h, few, c.loop-i.invariant.0) in
    let is = get_or_append_left c.loop-i.window-items _ no_window i inside ∙ c.loop-i.invariant.1 i (omega (arith, h, few, c.loop-i.invariant.0)) in (
      ap (λ w. w.early) is ∙ of_job_is G.n (early_from G (detected i) (edge i)) i (omega (arith, h, few)) ∙ ap (λ X. early_from X (detected i) (edge i) i) same
          ∙ ap (λ d. early_from F d (edge i) i) (c.detected_earlies-detected.ensures i h)
          ∙ ap (λ e. early_from F (detected_early F b i) e i) (c.edge_earlies-edges.ensures i h)
          ∙ new_early_is F b i,
      ap (λ w. w.late) is ∙ ap (λ X. min (X.late i) (not_last i)) same ∙ ap (min (F.late i)) (c.not_last_lates-not_last.ensures i h) ∙ new_late_is F b i,
    )
