use Rattle.std.proofs.Common.{rules, ap, ◌∙◌}
use borrow.Author.Tests.{tests}
use Rattle.changeover.proofs.Chains.{found}
use Rattle.rules.specs.Places.{first_such}
use Rattle.face.specs.Shown.{shown}
use Rattle.filtering.proofs.Finds.{such_from}
use Rattle.filtering.proofs.Halving.{is_short}
use Rattle.filtering.proofs.shorten.first_short.Goals as goal

pub returns : goal.returns
returns c =
    let test = is_short (shown c.args.face.now) c.args.windows.now in
    such_from test c.jobs.result c.find.result (found _ _ c.find.result test c.jobs.result c.find.ensures.ran (λ x r q k. search (rules, tests))) ∙ ap (first_such test) c.jobs.ensures.value
