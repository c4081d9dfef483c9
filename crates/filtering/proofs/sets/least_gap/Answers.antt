use Rattle.std.proofs.Common.{ℕ, ◌∙◌, Some, None, Option, sym, subst, ap, rules}
use Rattle.std.specs.List.{fold}
use Rattle.changeover.proofs.Chains.{folded}
use Rattle.changeover.proofs.Tables.{gap_small}
use Rattle.rules.specs.Rules.{lesser}
use Rattle.face.specs.Shown.{shown}
use Rattle.filtering.specs.Sets.{AtMost}
use Rattle.filtering.proofs.Finds.{least_from, fold_small}
use Rattle.filtering.proofs.sets.least_gap.Goals as goal

pub returns-clause-exact : goal.returns-clause-exact
returns-clause-exact g c =
    let F = shown c.args.face.now in
    let val : ℕ → ℕ = λ k. F.gap k c.args.i in
    let with_less : Option ℕ → ℕ → Option ℕ = λ o x. Some (lesser o x) in
    λ S same.
    folded _ _ _ c.fold.result None with_less val S F.n c.fold.ensures.runs c.map.ensures.runs c.filter.ensures.runs (ap (λ n. record { start = 0; end = n }) c.jobs.ensures.value) (λ x y r q k. search rules) (λ x r q k. search rules) (λ x r q k. (search rules, same x r (search rules)))
    ∙ least_from S val F.n

pub returns-clause-small : goal.returns-clause-small
unfolding shown
returns-clause-small g c =
    let F = shown c.args.face.now in
    let val : ℕ → ℕ = λ k. F.gap k c.args.i in
    let with_less : Option ℕ → ℕ → Option ℕ = λ o x. Some (lesser o x) in
    let all = c.fold.ensures.runs in
    let kept = c.map.ensures.runs all.0 all.0.seen all.1 in
    let is = all.3 with_less (λ x y r q k. search rules) ∙ ap (fold with_less None) (kept.2.3 val (λ x r q k. search rules)) in
    subst (AtMost 12000) (sym is) (fold_small 12000 val kept.0.items None (λ j. gap_small c.args.face.now.gaps j c.args.i) tt)
