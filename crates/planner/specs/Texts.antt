-- Why a command is refused, in words. Assumes nothing.
use Rattle.std.specs.Prelude.{ℕ, List}
use Rattle.matrix.specs.declared.refusals.MatrixRefusal.{MatrixRefusal}
use Rattle.matrix.specs.Words.{refusal_text}
use Rattle.rules.specs.declared.refusals.CardRefusal.{CardRefusal}
use Rattle.rules.specs.Texts.{card_text}
use Rattle.planner.specs.declared.desk.Refused.{Refused}
use Rattle.planner.specs.declared.desk.Refused.TheVariants.{Matrix, Card}

-- a refused matrix, or a refused call on a card, as the command's
abbrev pub of_matrix : MatrixRefusal → Refused
of_matrix refusal = Matrix refusal

abbrev pub of_card : CardRefusal → Refused
of_card refusal = Card refusal

abbrev pub refused_text : Refused → List ℕ
refused_text (Matrix refusal) = refusal_text refusal
refused_text (Card refusal) = card_text refusal
