use Rattle.std.proofs.Common.{rules, ap, ◌∙◌}
use Rattle.changeover.proofs.Chains.{every}
use Rattle.rules.specs.Settling.{same_windows}
use Rattle.face.specs.Shown.{shown}
use Rattle.filtering.specs.Ends.{same_at}
use Rattle.filtering.proofs.Runs.{same_every}
use Rattle.filtering.proofs.settling.is_unchanged.Goals as goal

pub returns : goal.returns
returns c =
    let F = shown c.args.before.now in
    let G = shown c.args.after.now in
    same_every F G c.jobs.result c.all.result (every _ _ c.all.result (same_at F G) c.jobs.result c.all.ensures.ran (λ x r q k. search rules)) ∙ ap (same_windows F G) c.jobs.ensures.value
