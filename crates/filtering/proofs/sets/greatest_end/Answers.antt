use Rattle.std.proofs.Common.{ℕ, ◌-◌, max, ap, ◌∙◌, rules}
use Rattle.changeover.proofs.Chains.{folded}
use Rattle.rules.specs.Faces.{latest_start}
use Rattle.face.specs.Shown.{shown}
use Rattle.filtering.proofs.Finds.{greatest_from}
use Rattle.filtering.proofs.sets.greatest_end.Goals as goal

pub returns : goal.returns
returns g c =
    let F = shown c.args.face.now in
    let val : ℕ → ℕ = λ k. latest_start F k - F.gap c.args.i k in
    λ S same.
    folded _ _ _ c.fold.result 0 max val S F.n c.fold.ensures.runs c.map.ensures.runs c.filter.ensures.runs (ap (λ n. record { start = 0; end = n }) c.jobs.ensures.value) (λ x y r q k. search rules) (λ x r q k. search rules) (λ x r q k. (search rules, same x r (search rules)))
    ∙ greatest_from S val F.n
