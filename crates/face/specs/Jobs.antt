-- The jobs and the windows of a list. Assumes nothing.
use Rattle.std.specs.Prelude.{ℕ, List, slice_index_or}
use Rattle.rules.specs.declared.sheet.Window.{Window}
use Rattle.rules.specs.Books.{no_window}
use Rattle.face.specs.declared.job.Job.{Job}

-- no job, where there is none
abbrev pub no_job : Job
no_job = record { duration = 0; early = 0; late = 0 }

-- the jobs of a list
abbrev pub early_in : List Job → ℕ → ℕ
early_in jobs j = (slice_index_or jobs j no_job).early

abbrev pub late_in : List Job → ℕ → ℕ
late_in jobs j = (slice_index_or jobs j no_job).late

abbrev pub duration_in : List Job → ℕ → ℕ
duration_in jobs j = (slice_index_or jobs j no_job).duration

-- the ends of the windows of a list
abbrev pub early_end : List Window → ℕ → ℕ
early_end windows j = (slice_index_or windows j no_window).early

abbrev pub late_end : List Window → ℕ → ℕ
late_end windows j = (slice_index_or windows j no_window).late
