-- What settling reads off a sheet. Assumes nothing.
use Rattle.std.specs.Prelude.{ℕ, ◌+◌, ◌-◌, min, cond, List, map, length, slice_index, slice_index_or}
use Rattle.std.specs.List.{range_with_len}
use Rattle.matrix.specs.Matrix.{changeover}
use Rattle.changeover.specs.Table.{among}
use Rattle.rules.specs.declared.sheet.Job.{Job}
use Rattle.rules.specs.declared.sheet.Window.{Window}
use Rattle.rules.specs.Cards.{member, rising_to}
use Rattle.rules.specs.Books.{no_job, no_window}
use Rattle.face.specs.declared.job.Job.{Job as Timed}

-- the job on the i-th of some cards, and its window
abbrev pub job_at : List Job → List ℕ → ℕ → Job
job_at jobs order i = slice_index_or jobs (slice_index order i - 1) no_job

abbrev pub window_at : List Window → List ℕ → ℕ → Window
window_at windows order i = slice_index_or windows (slice_index order i - 1) no_window

-- the gap from the i-th of some cards to the j-th, at most 12,000
abbrev pub gap_at : List ℕ → List Job → List ℕ → ℕ → ℕ → ℕ
gap_at changeovers jobs order i j = min (changeover 16 changeovers (job_at jobs order i).setup (job_at jobs order j).setup) 12000

-- the same, and 0 where there are not so many cards
abbrev pub gap_among : List ℕ → List Job → List ℕ → ℕ → ℕ → ℕ
gap_among changeovers jobs order i j = cond (among (length order) i j) (gap_at changeovers jobs order i j) 0

-- how long the job on the i-th of some cards lasts, and its window
abbrev pub timed_at : List Job → List Window → List ℕ → ℕ → Timed
timed_at jobs windows order i = record { duration = (job_at jobs order i).duration; early = (window_at windows order i).early; late = (window_at windows order i).late }

-- of windows in card order, the one on the card after k
abbrev pub after_place : List ℕ → List Window → ℕ → Window
after_place chain windows k = cond (member (k + 1) chain) (slice_index_or windows (length (rising_to chain k)) no_window) no_window

-- the windows by card
unfoldable pub by_card_of : List ℕ → List Window → List Window
by_card_of chain windows = map (after_place chain windows) (range_with_len 0 32)
