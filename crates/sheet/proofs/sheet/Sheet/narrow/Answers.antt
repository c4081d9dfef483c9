use Rattle.std.proofs.Common.{Err, sym, ap, ◌∙◌, subst}
use Rattle.std.proofs.lemmas.Result.{err_from_is_err_and}
use Rattle.rules.specs.Sounds.{Sound}
use Rattle.rules.specs.Histories.{narrows}
use Rattle.rules.proofs.Promised.{stays}
use Rattle.rules.specs.Models.{with_window, reopened}
use Rattle.rules.proofs.Sounds.{narrowed_sound}
use Rattle.sheet.specs.Shown.{book_of, shown}
use Rattle.sheet.proofs.Effects.{good, refused_keeps, accepted_leaves, narrowed_as}
use Rattle.sheet.proofs.sheet.Sheet.narrow.Goals as goal

pub returns-in_err-may_narrow : goal.returns-in_err-may_narrow
returns-in_err-may_narrow c =
    let p = err_from_is_err_and c.from_residual.result c.from_residual.ensures.1 in
    let asked = sym c.may_narrow.ensures ∙ c.in_err-may_narrow.was in
    let exact = refused_keeps _ _ _ (shown c.args.self.now) asked in
    record { answer = p.1 ∙ ap Err p.2 ∙ sym asked; after = exact; kept = stays (shown c.args.self.now) _ (narrows c.args.card c.args.window) tt exact }

pub invariant_of-self : goal.invariant_of-self
invariant_of-self c =
    let B = book_of c.args.self.now in
    let granted = sym c.may_narrow.ensures ∙ c.in_ok-may_narrow.was in
    let same = narrowed_as B c.args.card c.from.result c.args.window c.from.ensures in
    record { sound = good B _ (λ s. subst Sound (sym same) (narrowed_sound B c.args.card c.args.window s granted)) c.args.self.now.sound }

pub returns : goal.returns
returns c =
    let M = shown c.args.self.now in
    let B = book_of c.args.self.now in
    let granted = sym c.may_narrow.ensures ∙ c.in_ok-may_narrow.was in
    let same = narrowed_as B c.args.card c.from.result c.args.window c.from.ensures in
    let exact = c.accept.ensures ∙ ap reopened same ∙ accepted_leaves _ (reopened (with_window B c.args.card c.args.window)) M granted in
    record { answer = sym granted; after = exact; kept = stays M _ (narrows c.args.card c.args.window) tt exact }
