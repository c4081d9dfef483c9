use Rattle.std.proofs.Common.{◌≡◌, ℕ, Some, None, Option, rules, ap, ◌∙◌}
use borrow.Author.Tests.{tests}
use Rattle.changeover.proofs.Chains.{found}
use Rattle.rules.specs.declared.outcome.Overload.{Overload}
use Rattle.rules.specs.declared.outcome.Overload.TheVariants.{NeitherFirst}
use Rattle.rules.specs.Places.{first_such}
use Rattle.rules.specs.Rules.{clash}
use Rattle.face.specs.Shown.{shown}
use Rattle.filtering.proofs.Finds.{such_from}
use Rattle.filtering.proofs.pairs.first_with.Goals as goal

pub returns : goal.returns
returns c =
    let F = shown c.args.face.now in
    let test = clash F c.args.i in
    let h = such_from test c.jobs.result c.find.result (found _ _ c.find.result test c.jobs.result c.find.ensures.ran (λ x r q k. search (rules, tests))) ∙ ap (first_such test) c.jobs.ensures.value in
    let told : Option ℕ → Option Overload = λ o. elim o [ None ↦ None | Some j ↦ Some (NeitherFirst c.args.i j) ] in
    let m : c.map.result ≡ told c.find.result = search rules in
    m ∙ ap told h
