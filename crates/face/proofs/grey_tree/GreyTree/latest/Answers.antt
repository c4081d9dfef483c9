use Rattle.std.proofs.Common.{◌≡◌, ℕ, Bool, sym, ◌∙◌, subst}
use Rattle.theta_lambda.specs.Tells.{Tells}
use Rattle.face.specs.Readings.{bound_of, read}
use Rattle.face.specs.GreyTrees.{mixed_leaves, HoldsBoth, TellsJobs}
use Rattle.face.proofs.Fines.{fine}
use Rattle.face.proofs.Greys.{both_tree, limits, tells_white, tells_none, tells_some}
use Rattle.face.proofs.grey_tree.GreyTree.latest.Goals as goal
use Rattle.face.proofs.grey_tree.GreyTree.latest.Goals.{in-Some, in-None}

pub returns : goal.returns
returns g c =
    let R = c.args.reading.now in
    let F = read R in
    let ok = fine R.orders.face in
    let b = g.W.Numbers.at (bound_of c.args.reading.now) in
    let root = c.in-Ok.root in
    let told : (S G : ℕ → Bool) → HoldsBoth F b S G c.args.self.now → Tells b (mixed_leaves F S G) root =
    λ S G h.
    let w = c.in-Ok.ensures.tells (mixed_leaves F S G) (λ p _. limits F b ok S G p) (both_tree F b S G c.args.self.now h) in
    let e = w.1 in
    let same : w.0 ≡ root = cc in
    subst (Tells b (mixed_leaves F S G)) same w.2 in
    let late = c.told.ensures.grey in
    record {
      white = λ S G apart h. c.told.ensures.white ∙ tells_white F b ok S G apart root (told S G h);
      grey = λ S G apart h.
          elim c.match-root.branch [
            | in-Some w ↦
                let who = c.told.ensures.job ∙ w.job-is in
                subst (λ x. TellsJobs F b S G x c.told.result.job) (sym late) (subst (TellsJobs F b S G root.grey.finish) (sym who) (tells_some F b ok S G apart root (told S G h) _ w.job_at.result w.in-Some.is w.job_at.ensures.job))
            | in-None w ↦
                let who = c.told.ensures.job ∙ w.job-is in
                subst (λ x. TellsJobs F b S G x c.told.result.job) (sym late) (subst (TellsJobs F b S G root.grey.finish) (sym who) (tells_none F b ok S G apart root (told S G h) w.in-None.is))
          ];
    }
