-- What a face shows of its jobs. Assumes nothing.
use Rattle.std.specs.Prelude.{◌≡◌, ℕ, ◌+◌, ◌<◌, ◌≤◌, Bool, true, false, ◌≢◌, ◌⊎◌, List, length, Option, MatchOption}
use Rattle.changeover.specs.declared.gaps.Gaps.{Gaps}
use Rattle.changeover.specs.Table.{jobs_of, gap_of}
use Rattle.rules.specs.declared.sheet.Window.{Window}
use Rattle.rules.specs.Faces.{Face as Shown, of_job, with_windows}
use Rattle.face.specs.declared.face.Face.{Face}
use Rattle.face.specs.declared.job.Job.{Job}
use Rattle.face.specs.Limits.{in_limits}
pub use Rattle.face.specs.Limits.{AllIn}
pub use Rattle.face.specs.Jobs.{no_job, early_in, late_in, duration_in, early_end, late_end}

-- as many jobs as the gaps are of, with these windows and durations
abbrev pub read_as : (ℕ → ℕ) → (ℕ → ℕ) → (ℕ → ℕ) → Gaps → Shown
read_as early late duration gaps = record {
  n = jobs_of gaps;
  early = of_job (jobs_of gaps) early;
  late = of_job (jobs_of gaps) late;
  duration = of_job (jobs_of gaps) duration;
  gap = gap_of gaps;
}

-- what a face shows
unfoldable pub shown : Face → Shown
shown F = read_as (early_in F.jobs) (late_in F.jobs) (duration_in F.jobs) F.gaps

-- a job, as it is shown
abbrev pub job_of : Shown → ℕ → Job
job_of F j = record { duration = F.duration j; early = F.early j; late = F.late j }

-- the window of j has room for it, and ends by H
abbrev pub Room : Shown → ℕ → Type 0
Room F j = (F.early j + F.duration j ≤ F.late j) × (F.late j ≤ 1000000)

-- of n jobs, one is out of its limits
abbrev pub SomeOut : ℕ → (ℕ → ℕ) → (ℕ → ℕ) → (ℕ → ℕ) → Type 0
SomeOut n early late duration = (j : ℕ) × (j < n) × (in_limits (duration j) (early j) (late j) ≡ false)

-- whether each of n jobs is in its limits
abbrev pub Verdict : ℕ → (ℕ → ℕ) → (ℕ → ℕ) → (ℕ → ℕ) → Bool → Type 0
Verdict n early late duration true = AllIn n early late duration
Verdict n early late duration false = SomeOut n early late duration

-- the face of these windows and durations, or none where a job is out of its limits
abbrev pub Checked : (ℕ → ℕ) → (ℕ → ℕ) → (ℕ → ℕ) → Gaps → Option Face → Type 0
Checked early late duration gaps answer =
    MatchOption answer (SomeOut (jobs_of gaps) early late duration) (λ F. AllIn (jobs_of gaps) early late duration × (shown F ≡ read_as early late duration gaps))

-- the face of a list of jobs, or none where they are not as many as the gaps are of, or one is out of its limits
abbrev pub Made : List Job → Gaps → Option Face → Type 0
Made jobs gaps answer =
    MatchOption answer ((length jobs ≢ jobs_of gaps) ⊎ SomeOut (jobs_of gaps) (early_in jobs) (late_in jobs) (duration_in jobs))
    (λ F. (length jobs ≡ jobs_of gaps) × AllIn (jobs_of gaps) (early_in jobs) (late_in jobs) (duration_in jobs) × (shown F ≡ read_as (early_in jobs) (late_in jobs) (duration_in jobs) gaps))

-- the face with other windows, or none where a job is then out of its limits
abbrev pub Windowed : Face → List Window → Option Face → Type 0
Windowed F windows answer =
    MatchOption answer (SomeOut (shown F).n (early_end windows) (late_end windows) (shown F).duration)
    (λ G. AllIn (shown F).n (early_end windows) (late_end windows) (shown F).duration × (shown G ≡ with_windows (shown F) (early_end windows) (late_end windows)))
