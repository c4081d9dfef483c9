-- The numbers of the cause of an overload. Assumes nothing.
use Rattle.std.specs.Prelude.{ℕ}
use Rattle.rules.specs.declared.outcome.Overload.{Overload}
use Rattle.rules.specs.declared.outcome.Overload.TheVariants.{NeitherFirst, TooMuch, TooShort}
use Rattle.rules.specs.declared.outcome.Side.{Side}
use Rattle.rules.specs.declared.outcome.Side.TheVariants.{First, Turned}

-- its kind
abbrev pub kind_number : Overload → ℕ
kind_number (NeitherFirst i j) = 1
kind_number (TooMuch j) = 2
kind_number (TooShort j) = 3

-- the face on which it was found
abbrev pub side_number : Side → ℕ
side_number First = 0
side_number Turned = 1

-- its two jobs; 0 where there is no second one
abbrev pub first_job : Overload → ℕ
first_job (NeitherFirst i j) = i
first_job (TooMuch j) = j
first_job (TooShort j) = j

abbrev pub second_job : Overload → ℕ
second_job (NeitherFirst i j) = j
second_job (TooMuch j) = 0
second_job (TooShort j) = 0
