use Rattle.std.proofs.Common.{sym, ◌∙◌}
use Rattle.rules.specs.Models.{fresh_book, reopened}
use Rattle.rules.specs.Histories.{made}
use Rattle.rules.proofs.Promised.{kept_made}
use Rattle.sheet.specs.Shown.{shown}
use Rattle.sheet.proofs.Effects.{accepted_leaves}
use Rattle.sheet.proofs.sheet.Sheet.make.Goals as goal

pub returns : goal.returns
returns c =
    let m = c.args.setups in
    let numbers = c.args.numbers.now in
    let granted = sym c.check_matrix.ensures.answer ∙ c.in_ok-check_matrix.was in
    record {
      answer = sym granted;
      after = c.fresh.ensures ∙ accepted_leaves _ (reopened (fresh_book m numbers)) (shown c.args.self.now) granted;
      kept = λ _. kept_made (made m numbers) _ granted c.fresh.ensures;
    }
