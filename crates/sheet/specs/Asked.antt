-- Question 5. Assumes nothing.
use Rattle.std.specs.Prelude.{ℕ, cond, Ok, Err, Result}
use Rattle.rules.specs.declared.refusals.CardRefusal.{CardRefusal}
use Rattle.rules.specs.declared.refusals.CardRefusal.TheVariants.{Card}
use Rattle.rules.specs.Cards.{is_card}

-- is it a card?
abbrev pub is_card_answer : ℕ → Result (Unit {0}) CardRefusal
is_card_answer card = cond (is_card card) (Ok tt) (Err (Card card))
