-- A sheet, and what each call answers and leaves. Assumes nothing.
use Rattle.std.specs.Prelude.{ℕ, ◌+◌, ◌-◌, Bool, cond, ◌&&◌, List, [], ◌∷◌, ◌++◌, map, length, replicate, Some, None, Ok, Err, Option, Result, nat_le, slice_index_or, slice_set}
use Rattle.std.specs.List.{range_with_len}
use Rattle.matrix.specs.Matrix.{matrix_answer}
use Rattle.changeover.specs.Rows.{Lawful}
use Rattle.rules.specs.declared.outcome.Overload.{Overload}
use Rattle.rules.specs.declared.outcome.Overload.TheVariants.{NeitherFirst, TooMuch, TooShort}
use Rattle.rules.specs.declared.outcome.Cause.{Cause}
use Rattle.rules.specs.declared.refusals.JobRefusal.{JobRefusal}
use Rattle.rules.specs.declared.refusals.JobRefusal.TheVariants.{Setup, Duration, LateEnd, Room}
use Rattle.rules.specs.declared.refusals.CardRefusal.{CardRefusal}
use Rattle.rules.specs.declared.refusals.CardRefusal.TheVariants.{Card, Taken, Absent, Outside}
use Rattle.rules.specs.declared.sheet.Job.{Job}
use Rattle.rules.specs.declared.sheet.Window.{Window}
use Rattle.rules.specs.declared.sheet.Status.{Status}
use Rattle.rules.specs.declared.sheet.Status.TheVariants.{Open, Settled, Overloaded}
use Rattle.rules.specs.declared.sheet.View.{View}
use Rattle.rules.specs.declared.sheet.Settlement.{Settlement}
use Rattle.rules.specs.Refusals.{on_card}
use Rattle.rules.specs.Cards.{member, is_card, without, rising_to}
use Rattle.rules.specs.Books.{Book, no_job, no_window, job_on, posted_on, card_at, jobs_in, laid_out}
use Rattle.rules.specs.Faces.{Face, horizon}
use Rattle.rules.specs.Plans.{gap_between, face_of}
use Rattle.rules.specs.Settling.{Outcome, settled}

-- A SHEET: its job book, and what is held of it
pub record Model : Type 0 where
  pub book : Book
  -- by card, from card 1 on, the windows held; zeros where the card is not on the sheet
  pub held : List Window
  pub status : Status
  pub rounds : ℕ

abbrev pub held_on : Model → ℕ → Window
held_on M card = slice_index_or M.held (card - 1) no_window

-- the book of a sheet that was just made: no jobs
unfoldable pub fresh_book : ℕ → List ℕ → Book
fresh_book m numbers = record {
  setups = m;
  changeovers = laid_out m numbers;
  chain = [];
  jobs = replicate 32 no_job;
  posted = replicate 32 no_window;
}

-- the sheet of a book, open: no rounds, and every held window equals its posted one
abbrev pub reopened : Book → Model
reopened B = record { book = B; held = B.posted; status = Open; rounds = 0 }

-- Question 11: is the early end at most the late end, and late less early at least the duration?
abbrev pub room_answer : ℕ → Window → Result (Unit {0}) JobRefusal
room_answer duration w =
    cond (nat_le w.early w.late && nat_le duration (w.late - w.early)) (Ok tt) (Err (Room w))

-- Questions 8 to 11 of a job: a setup from 1 to m, a duration from 1 to 100,000, a late end of at most H, room
abbrev pub job_answer : ℕ → Job → Window → Result (Unit {0}) JobRefusal
job_answer m job w =
    cond (nat_le 1 job.setup && nat_le job.setup m)
    (cond (nat_le 1 job.duration && nat_le job.duration 100000)
    (cond (nat_le w.late horizon)
    (room_answer job.duration w)
    (Err (LateEnd w.late)))
    (Err (Duration job.duration)))
    (Err (Setup job.setup))

-- what is wrong with a job, said by the call on its card
abbrev pub on_its_card : Result (Unit {0}) JobRefusal → Result (Unit {0}) CardRefusal
on_its_card (Ok x) = Ok x
on_its_card (Err refusal) = Err (on_card refusal)

-- POST asks: 5 is it a card? 6 is it free? and 8 to 11 of its job
abbrev pub post_answer : Book → ℕ → Job → Window → Result (Unit {0}) CardRefusal
post_answer B card job w =
    cond (is_card card) (cond (member card B.chain) (Err (Taken card)) (on_its_card (job_answer B.setups job w))) (Err (Card card))

-- WITHDRAW and LOOK ask: 5, 7 is the card on the sheet?
abbrev pub card_answer : Book → ℕ → Result (Unit {0}) CardRefusal
card_answer B card = cond (is_card card) (cond (member card B.chain) (Ok tt) (Err (Absent card))) (Err (Card card))

-- a window lies inside another
abbrev pub inside : Window → Window → Bool
inside w outer = nat_le outer.early w.early && nat_le w.late outer.late

-- NARROW asks: 5, 7, 12 is the new window inside the posted one? 11
abbrev pub narrow_answer : Book → ℕ → Window → Result (Unit {0}) CardRefusal
narrow_answer B card w =
    cond (is_card card)
    (cond (member card B.chain)
    (cond (inside w (posted_on B card)) (on_its_card (room_answer (job_on B card).duration w)) (Err (Outside w)))
    (Err (Absent card)))
    (Err (Card card))

-- the book with a job more, at the chain's end
abbrev pub with_job : Book → ℕ → Job → Window → Book
with_job B card job w = record {
  setups = B.setups;
  changeovers = B.changeovers;
  chain = B.chain ++ card ∷ [];
  jobs = slice_set B.jobs (card - 1) job;
  posted = slice_set B.posted (card - 1) w;
}

-- the book with a job less
abbrev pub without_job : Book → ℕ → Book
without_job B card = record {
  setups = B.setups;
  changeovers = B.changeovers;
  chain = without card B.chain;
  jobs = slice_set B.jobs (card - 1) no_job;
  posted = slice_set B.posted (card - 1) no_window;
}

-- the book with another posted window
abbrev pub with_window : Book → ℕ → Window → Book
with_window B card w = record {
  setups = B.setups;
  changeovers = B.changeovers;
  chain = B.chain;
  jobs = B.jobs;
  posted = slice_set B.posted (card - 1) w;
}

-- what is left: an accepted call leaves the new, a refused one changes nothing
abbrev pub left_by : {E X : Type 0} → Result (Unit {0}) E → X → X → X
left_by (Ok x) new old = new
left_by (Err refusal) new old = old

-- what a bound means: its numbers, of n jobs and the gaps between them
abbrev pub Meaning : Type 0
Meaning = ℕ → (ℕ → ℕ → ℕ) → ℕ → ℕ

-- THE LAW of a bound: whatever the jobs and the gaps, its numbers never overstate
abbrev pub Law : Meaning → Type 0
Law f = (n : ℕ) (gap : ℕ → ℕ → ℕ) → Lawful n gap (f n gap)

-- how settling the posted windows of a book ends, with a bound that is worked out from the book's gaps
unfoldable pub outcome : Meaning → Book → Outcome
outcome f B = let J = jobs_in B in settled (f J.n (gap_between J)) (face_of J)

-- the window of a face, on the card after k
abbrev pub window_after : Book → Face → ℕ → Window
window_after B F k =
    let j = length (rising_to B.chain k) in cond (member (k + 1) B.chain) (record { early = F.early j; late = F.late j }) no_window

-- the windows of a face by card
unfoldable pub by_card : Book → Face → List Window
by_card B F = map (window_after B F) (range_with_len 0 32)

abbrev pub status_of : Option Cause → Status
status_of None = Settled
status_of (Some cause) = Overloaded

-- SETTLE starts from the posted windows, whatever the status
abbrev pub settled_book : Meaning → Book → Model
settled_book f B = let O = outcome f B in record { book = B; held = by_card B O.held; status = status_of O.cause; rounds = O.rounds }

-- jobs by card in the place of jobs by their number in card order
abbrev pub named : (ℕ → ℕ) → Overload → Overload
named card (NeitherFirst i j) = NeitherFirst (card i) (card j)
named card (TooMuch j) = TooMuch (card j)
named card (TooShort j) = TooShort (card j)

abbrev pub named_cause : (ℕ → ℕ) → Option Cause → Option Cause
named_cause card None = None
named_cause card (Some c) = Some (record { overload = named card c.overload; side = c.side })

-- what settle answers: rounds and cause; the status is overloaded where there is a cause
abbrev pub settle_answer : Meaning → Book → Settlement
settle_answer f B = let O = outcome f B in record { rounds = O.rounds; cause = named_cause (card_at B) O.cause }

-- what look answers: both windows and the status
abbrev pub look_answer : Model → ℕ → Result View CardRefusal
look_answer M card =
    elim (card_answer M.book card) [
      | Ok x ↦ Ok (record { posted = posted_on M.book card; held = held_on M card; status = M.status })
      | Err refusal ↦ Err refusal
    ]

-- what make leaves of a sheet that is lent to it
abbrev pub make_leaves : ℕ → List ℕ → Model → Model
make_leaves m numbers M = left_by (matrix_answer m numbers) (reopened (fresh_book m numbers)) M
