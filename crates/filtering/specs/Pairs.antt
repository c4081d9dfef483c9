-- The arithmetic of pairs. Assumes nothing.
use Rattle.std.specs.Prelude.{ℕ, ◌+◌, Some, None, Option}
use Rattle.rules.specs.declared.outcome.Overload.{Overload}
use Rattle.rules.specs.declared.outcome.Overload.TheVariants.{NeitherFirst}
use Rattle.rules.specs.Faces.{Face, earliest_finish}
use Rattle.rules.specs.Places.{first_such}
use Rattle.rules.specs.Rules.{clash}

-- when i and the gap from it to j are over at the earliest
abbrev pub over_for : Face → ℕ → ℕ → ℕ
over_for F i j = earliest_finish F i + F.gap i j

-- the first pair of job i and a job of a higher card that clash
abbrev pub first_with : Face → ℕ → Option Overload
first_with F i = elim (first_such (clash F i) F.n) [ None ↦ None | Some j ↦ Some (NeitherFirst i j) ]
