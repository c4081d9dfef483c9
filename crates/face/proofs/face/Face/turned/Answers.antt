use Rattle.std.proofs.Common.{◌≡◌, ◌<◌, length, true, sym, ◌∙◌, subst, arith, rules}
use Rattle.std.proofs.lemmas.List.{get_or_append_left, length-take}
use Rattle.face.specs.Limits.{in_limits}
use Rattle.face.specs.Shown.{no_job}
use Rattle.face.proofs.Fines.{n_is, fine, limits_from, duration_small, wide_anyway, late_small}
use Rattle.face.proofs.Alike.{turned_is}
use Rattle.face.proofs.face.Face.turned.Goals as goal

pub loop-j-init : goal.loop-j-init
loop-j-init c =
    let F = c.args.self.now in
    let long : length F.jobs ≡ 32 = search rules in
    (omega (arith, length-take c.jobs.result F.jobs, long, c.jobs.ensures.value, n_is F, F.gaps.few), λ k h. absurd (omega arith))

pub invariant_of-result : goal.invariant_of-result
invariant_of-result c =
    let F = c.args.self.now in
    record {
      fits = λ j h.
          let inside : j < length c.loop-j.job-items = omega (arith, h, c.loop-j.invariant.0) in
          let e = get_or_append_left c.loop-j.job-items _ no_job j inside ∙ c.loop-j.invariant.1 j (omega (arith, h, c.loop-j.invariant.0)) in
          subst (λ x. in_limits x.duration x.early x.late ≡ true) (sym e)
          (limits_from _ _ _ (record { lasts = ((fine F).lasts j (omega (arith, n_is F))).0; short = duration_small F j; wide = omega (arith, wide_anyway F j, late_small F j); closes = omega arith }));
    }

pub returns : goal.returns
returns c =
    let F = c.args.self.now in
    turned_is F _ c.turned_gaps.ensures.jobs (λ j h. let inside : j < length c.loop-j.job-items = omega (arith, h, c.loop-j.invariant.0) in get_or_append_left c.loop-j.job-items _ no_job j inside ∙ c.loop-j.invariant.1 j (omega (arith, h, c.loop-j.invariant.0))) c.turned_gaps.ensures.gaps
