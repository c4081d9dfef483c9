use Rattle.std.proofs.Common.{◌≡◌, ℕ, ◌<◌, ◌++◌, length, drop, ◌∙◌, arith, rules}
use Rattle.std.proofs.lemmas.List.{get_or_append_left, length-take}
use Rattle.face.specs.declared.job.Job.{Job}
use Rattle.face.specs.Shown.{shown, no_job, early_end, late_end}
use Rattle.face.proofs.Fines.{n_is}
use Rattle.face.proofs.Alike.{checked_from, windowed_from}
use Rattle.face.proofs.face.Face.with_windows.Goals as goal

pub loop-j-init : goal.loop-j-init
loop-j-init c =
    let F = c.args.self.now in
    let long : length F.jobs ≡ 32 = search rules in
    (omega (arith, length-take c.jobs.result F.jobs, long, c.jobs.ensures.value, n_is F, F.gaps.few), λ k h. absurd (omega arith))

pub returns : goal.returns
returns c =
    let F = c.args.self.now in
    let W = c.args.windows.now in
    let val : ℕ → Job = λ j. record { duration = (shown F).duration j; early = early_end W j; late = late_end W j } in
    windowed_from F W c.checked.result (checked_from (c.loop-j.job-items ++ drop c.jobs.result F.jobs) val F.gaps c.checked.result (λ j h. let inside : j < length c.loop-j.job-items = omega (arith, h, c.loop-j.invariant.0) in get_or_append_left c.loop-j.job-items (drop c.jobs.result F.jobs) no_job j inside ∙ c.loop-j.invariant.1 j (omega (arith, h, c.loop-j.invariant.0))) c.checked.ensures)
