-- The job books of the worked examples, and what settling them gives, written out. Assumes nothing.
use Rattle.std.specs.Prelude.{ℕ, List, [], ◌∷◌, map, Option, slice_index, slice_index_or}
use Rattle.std.specs.List.{range_with_len}
use Rattle.changeover.specs.Kinds.{shortest_walk}
use Rattle.rules.specs.declared.outcome.Cause.{Cause}
use Rattle.rules.specs.Faces.{Face}
use Rattle.rules.specs.Settling.{settled}
use Rattle.rules.specs.Plans.{Jobs, gap_between, face_of}

-- a window
pub record Window : Type 0 where
  pub from : ℕ
  pub to : ℕ

-- an outcome with its windows written out
pub record Told : Type 0 where
  pub cause : Option Cause
  pub rounds : ℕ
  pub held : List Window

abbrev pub windows_of : Face → List Window
windows_of F = map (λ j. record { from = F.early j; to = F.late j }) (range_with_len 0 F.n)

-- what settling a job book with these numbers gives
unfoldable pub told : (ℕ → ℕ) → Jobs → Told
told b J =
    let O = settled b (face_of J) in record { cause = O.cause; rounds = O.rounds; held = windows_of O.held }

-- the numbers of the shortest walk over the jobs of a book
abbrev pub walk_of : Jobs → ℕ → ℕ
walk_of J = shortest_walk J.n (gap_between J)

-- jobs of 4 and 5 minutes, changeovers of 3 minutes from the first to the second and of 2 back, windows from 0 to `end` and from 0 to 10
abbrev pub two_jobs : ℕ → Jobs
two_jobs end = record {
  n = 2;
  early = λ j. 0;
  late = λ j. slice_index (end ∷ 10 ∷ []) j;
  duration = λ j. slice_index (4 ∷ 5 ∷ []) j;
  changeover = λ i j. slice_index (slice_index_or ((0 ∷ 3 ∷ []) ∷ (2 ∷ 0 ∷ []) ∷ []) i []) j;
}

-- three jobs of 10 minutes with changeovers of 10 minutes, in windows from 0 to `end`
abbrev pub three_jobs : ℕ → Jobs
three_jobs end = record { n = 3; early = λ j. 0; late = λ j. end; duration = λ j. 10; changeover = λ i j. 10 }

abbrev pub no_jobs : Jobs
no_jobs = record { n = 0; early = λ j. 0; late = λ j. 0; duration = λ j. 0; changeover = λ i j. 0 }
