use Rattle.std.proofs.Common.{ap, ◌∙◌}
use mathlib.Core.Path.{fun_ext}
use Rattle.changeover.specs.Table.{jobs_of}
use Rattle.lines.specs.Bounds.{row_text}
use Rattle.lines.proofs.bounds.worked_out.Goals as goal

pub returns : goal.returns
returns g c = let name = c.args.name.now in
    ap (row_text name _) c.jobs.ensures.value ∙ ap (λ b. row_text name b (jobs_of c.args.gaps.now)) (fun_ext c.work_out.ensures.numbers)
