use Rattle.std.proofs.Common.{ap, ◌∙◌, arith}
use Rattle.face.proofs.Fines.{n_is, job_is, duration_small, wide_anyway, late_small}
use Rattle.face.proofs.face.Face.job.Goals as goal

pub returns : goal.returns
returns c =
    let F = c.args.self.now in
    let j = c.args.j in
    let is = c.nth_job.ensures ∙ job_is F j c.jobs.result (omega (arith, n_is F)) in
    record {
      value = is;
      room = (wide_anyway F j, late_small F j);
      short = omega (arith, ap (λ x. x.duration) is, duration_small F j);
    }
