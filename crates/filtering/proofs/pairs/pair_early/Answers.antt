use Rattle.std.proofs.Common.{rules, max, not, ◌&&◌, ◌==◌, ap, ◌∙◌}
use borrow.Author.Tests.{tests}
use Rattle.changeover.proofs.Chains.{folded}
use Rattle.rules.specs.Rules.{can_precede, pair_early}
use Rattle.face.specs.Shown.{shown}
use Rattle.filtering.specs.Pairs.{over_for}
use Rattle.filtering.proofs.Finds.{greatest_from}
use Rattle.filtering.proofs.pairs.pair_early.Goals as goal

pub returns : goal.returns
unfolding pair_early
returns c =
    let F = shown c.args.face.now in
    let i = c.args.i in
    folded _ _ _ c.fold.result 0 max (λ j. over_for F j i) (λ j. not (j == i) && not (can_precede F i j)) F.n c.fold.ensures.runs c.map.ensures.runs c.filter.ensures.runs (ap (λ n. record { start = 0; end = n }) c.jobs.ensures.value) (λ x y r q k. search (rules, tests)) (λ x r q k. search (rules, tests)) (λ x r q k. search (rules, tests))
    ∙ greatest_from (λ j. not (j == i) && not (can_precede F i j)) (λ j. over_for F j i) F.n
