use Rattle.std.proofs.Common.{◌≡◌, ℕ, List, get_or, Some, None, Option, refl, ap, ◌∙◌, subst, ap₂}
use Rattle.rules.specs.declared.outcome.Cause.{Cause}
use Rattle.rules.specs.Models.{outcome, status_of, named_cause}
use Rattle.rules.specs.Histories.{settles}
use Rattle.rules.proofs.Promised.{stays}
use Rattle.filtering.specs.Ends.{Says}
use Rattle.face.specs.Shown.{shown as face_shown}
use Rattle.sheet.specs.Shown.{book_of, shown}
use Rattle.sheet.proofs.Outcomes.{held_by_card, outcome_is, same_sheet, same_answer}
use Rattle.sheet.proofs.sheet.Sheet.settle.Goals as goal

-- naming the jobs of a cause leaves the status
same_status : (card : ℕ → ℕ) (x : Option Cause) → status_of (named_cause card x) ≡ status_of x
same_status card None = refl
same_status card (Some c) = refl

pub returns : goal.returns
returns g c =
    let B = book_of c.args.self.now in
    let f = g.B.Bound.becomes c.args.bound in
    let o = c.settle-outcome.result in
    let is = outcome_is f B (face_shown c.face.result) c.face.ensures in
    let says = subst (Says o) is c.settle-outcome.ensures in
    let cause-is = c.named_cause.ensures ∙ ap₂ (λ (order : List ℕ) (x : Option Cause). named_cause (λ j. get_or order j 0) x) c.rising-order.ensures says.cause in
    let status-is = c.status.ensures ∙ ap status_of cause-is ∙ same_status _ (outcome f B).cause in
    let held-are = c.by_card.ensures B.chain c.rising-order.ensures ∙ held_by_card B (outcome f B).held o.held says.held in
    let exact = c.accept.ensures ∙ same_sheet B held-are status-is says.rounds in
    record {
      answer = same_answer says.rounds cause-is;
      after = exact;
      kept = stays (shown c.args.self.now) _ (settles f) (g.met.B.Bound.keeps c.args.bound) exact;
    }
