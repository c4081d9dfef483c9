use Rattle.std.proofs.Common.{Err, sym, ap, ◌∙◌, subst}
use Rattle.std.proofs.lemmas.Result.{err_from_is_err_and}
use Rattle.rules.specs.Sounds.{Sound}
use Rattle.rules.specs.Histories.{withdraws}
use Rattle.rules.proofs.Promised.{stays}
use Rattle.rules.specs.Models.{without_job, reopened}
use Rattle.rules.proofs.Sounds.{withdrawn_sound}
use Rattle.sheet.specs.Shown.{book_of, shown}
use Rattle.sheet.proofs.Effects.{good, refused_keeps, accepted_leaves, withdrawn_as}
use Rattle.sheet.proofs.sheet.Sheet.withdraw.Goals as goal

pub returns-in_err-has_card : goal.returns-in_err-has_card
returns-in_err-has_card c =
    let p = err_from_is_err_and c.from_residual.result c.from_residual.ensures.1 in
    let asked = sym c.has_card.ensures ∙ c.in_err-has_card.was in
    let exact = refused_keeps _ _ _ (shown c.args.self.now) asked in
    record { answer = p.1 ∙ ap Err p.2 ∙ sym asked; after = exact; kept = stays (shown c.args.self.now) _ (withdraws c.args.card) tt exact }

pub invariant_of-self : goal.invariant_of-self
invariant_of-self c =
    let B = book_of c.args.self.now in
    let granted = sym c.has_card.ensures ∙ c.in_ok-has_card.was in
    let same = withdrawn_as B c.args.card c.from-place.result _ c.from-place.ensures c.remove.ensures in
    record { sound = good B _ (λ s. subst Sound (sym same) (withdrawn_sound B c.args.card s granted)) c.args.self.now.sound }

pub returns : goal.returns
returns c =
    let M = shown c.args.self.now in
    let B = book_of c.args.self.now in
    let granted = sym c.has_card.ensures ∙ c.in_ok-has_card.was in
    let same = withdrawn_as B c.args.card c.from-place.result _ c.from-place.ensures c.remove.ensures in
    let exact = c.accept.ensures ∙ ap reopened same ∙ accepted_leaves _ (reopened (without_job B c.args.card)) M granted in
    record { answer = sym granted; after = exact; kept = stays M _ (withdraws c.args.card) tt exact }
