-- The job book of a sheet, and the jobs that settling reads off it. Assumes nothing.
use Rattle.std.specs.Prelude.{ℕ, ◌+◌, ◌-◌, ◌*◌, ◌/◌, ◌%◌, cond, ◌&&◌, List, map, length, nat_lt, slice_index, slice_index_or}
use Rattle.std.specs.List.{range_with_len}
use Rattle.matrix.specs.Matrix.{changeover}
use Rattle.changeover.specs.Table.{among}
use Rattle.rules.specs.declared.sheet.Job.{Job}
use Rattle.rules.specs.declared.sheet.Window.{Window}
use Rattle.rules.specs.Cards.{rising_to}
use Rattle.rules.specs.Faces.{of_job}
use Rattle.rules.specs.Plans.{Jobs, Fits}

-- what is on no card
abbrev pub no_job : Job
no_job = record { setup = 0; duration = 0 }

abbrev pub no_window : Window
no_window = record { early = 0; late = 0 }

-- THE JOB BOOK: the setups and the changeovers between them, and the jobs
pub record Book : Type 0 where
  -- how many setups there are
  pub setups : ℕ
  -- the changeovers, 16 to a row; 0 where there is no such setup
  pub changeovers : List ℕ
  -- the cards that are on the sheet, in posting order
  pub chain : List ℕ
  -- by card, from card 1 on: the job on it and its posted window; zeros where the card is not on the sheet
  pub jobs : List Job
  pub posted : List Window

-- the job on a card, and its posted window
abbrev pub job_on : Book → ℕ → Job
job_on B card = slice_index_or B.jobs (card - 1) no_job

abbrev pub posted_on : Book → ℕ → Window
posted_on B card = slice_index_or B.posted (card - 1) no_window

-- the changeover from the job on one card to the job on another: M of their setups
abbrev pub changeover_on : Book → ℕ → ℕ → ℕ
changeover_on B card other = changeover 16 B.changeovers (job_on B card).setup (job_on B other).setup

-- the cards of the book in rising order
abbrev pub rising : Book → List ℕ
rising B = rising_to B.chain 32

-- the card of the j-th job in card order, from 0
abbrev pub card_at : Book → ℕ → ℕ
card_at B j = slice_index (rising B) j

-- the jobs of the book, in card order
unfoldable pub jobs_in : Book → Jobs
jobs_in B = record {
  n = length (rising B);
  early = of_job (length (rising B)) (λ j. (posted_on B (card_at B j)).early);
  late = of_job (length (rising B)) (λ j. (posted_on B (card_at B j)).late);
  duration = of_job (length (rising B)) (λ j. (job_on B (card_at B j)).duration);
  changeover = λ i j. cond (among (length (rising B)) i j) (changeover_on B (card_at B i) (card_at B j)) 0;
}

-- THE PLAN FITS THE BOOK: a start for each card, such that the starts of its jobs fit
abbrev pub PlanFits : Book → (ℕ → ℕ) → Type 0
PlanFits B start = Fits (jobs_in B) (λ j. start (card_at B j))

-- the numbers of a matrix of m setups, given row by row, laid into rows of 16
abbrev pub laid : ℕ → List ℕ → ℕ → ℕ
laid m numbers k = cond (nat_lt (k / 16) m && nat_lt (k % 16) m) (slice_index numbers (m * (k / 16) + k % 16)) 0

unfoldable pub laid_out : ℕ → List ℕ → List ℕ
laid_out m numbers = map (laid m numbers) (range_with_len 0 256)
