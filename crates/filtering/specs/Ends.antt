-- What the ends of half rounds, rounds and settling mean. Assumes nothing.
use Rattle.std.specs.Prelude.{◌≡◌, ℕ, ◌-◌, ◌<◌, max, Bool, cond, ◌&&◌, List, Some, None, Option, Ok, Err, Result, ◌==◌, slice_index, slice_index_or}
use Rattle.rules.specs.declared.outcome.Overload.{Overload}
use Rattle.rules.specs.declared.sheet.Window.{Window}
use Rattle.rules.specs.Books.{no_window}
use Rattle.rules.specs.Faces.{Face, latest_start}
use Rattle.rules.specs.Rules.{above, greatest, pair_early, new_early, new_late, Half, overloaded, goes_on}
use Rattle.rules.specs.Settling.{Round, stops, leaves, Outcome as Settled}
use Rattle.face.specs.declared.face.Face.{Face as Read}
use Rattle.face.specs.Shown.{early_end, late_end, shown}
use Rattle.face.specs.WhiteTrees.{but}
use Rattle.filtering.specs.declared.outcome.Outcome.{Outcome}
use Rattle.filtering.specs.declared.outcome.Stopped.{Stopped}
use Rattle.filtering.specs.Sets.{under}

-- what a test answers that found an overload, or none
abbrev pub verdict : Option Overload → Result Unit Overload
verdict None = Ok tt
verdict (Some x) = Err x

-- the end of a half round
abbrev pub half_of : Result Read Overload → Half
half_of (Ok F) = goes_on (shown F)
half_of (Err x) = overloaded x

-- the end of a round
abbrev pub round_of : Result Read Stopped → Round
round_of (Ok F) = leaves (shown F)
round_of (Err s) = stops s.cause (shown s.held)

-- the early end of job i after what its pairs, detectable precedences and edge finding leave
abbrev pub early_from : Face → ℕ → ℕ → ℕ → ℕ
early_from F detected edge i = max (F.early i) (max (pair_early F i) (max detected edge))

-- the late end of job i, where the others that have to start before it and the least gap from them to it are over then
abbrev pub late_from : Face → Option ℕ → ℕ → ℕ
late_from F over i =
    cond (above over (latest_start F i)) (greatest (but i (under F (F.late i))) (λ j. latest_start F j - F.gap i j) F.n) (F.late i)

-- the list has what a rule gives to each of n jobs
abbrev pub Each : ℕ → (ℕ → ℕ) → List ℕ → Type 0
Each n rule xs = (i : ℕ) → i < n → slice_index xs i ≡ rule i

-- the list has the window that the rules leave to each job
abbrev pub Ruled : Face → (ℕ → ℕ) → List Window → Type 0
Ruled F b windows = (i : ℕ) → i < F.n → (early_end windows i ≡ new_early F b i) × (late_end windows i ≡ new_late F b i)

-- a job has the same window in both
abbrev pub same_at : Face → Face → ℕ → Bool
same_at F G j = F.early j == G.early j && F.late j == G.late j

-- the list has the windows of a face, and 0 to 0 past its jobs
abbrev pub Held : Face → List Window → Type 0
Held F windows = (j : ℕ) → slice_index_or windows j no_window ≡ record { early = F.early j; late = F.late j }

-- an outcome says how settling ended
pub record Says (o : Outcome) (S : Settled) : Type 0 where
  pub cause : o.cause ≡ S.cause
  pub rounds : o.rounds ≡ S.rounds
  pub held : Held S.held o.held
