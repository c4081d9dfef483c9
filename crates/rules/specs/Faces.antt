-- Faces: what a half round reads. Assumes nothing.
-- Jobs are counted from 0 in card order; times are whole minutes.
use Rattle.std.specs.Prelude.{ℕ, ◌+◌, ◌-◌, cond, nat_lt}

-- n jobs, each with a window from its early end to its late end and a duration, and the gaps between them
pub record Face : Type 0 where
  pub n : ℕ
  pub early : ℕ → ℕ
  pub late : ℕ → ℕ
  pub duration : ℕ → ℕ
  pub gap : ℕ → ℕ → ℕ

-- H, the last minute
abbrev pub horizon : ℕ
horizon = 1000000

-- x of a job, and 0 of what is none
abbrev pub of_job : ℕ → (ℕ → ℕ) → ℕ → ℕ
of_job n x j = cond (nat_lt j n) (x j) 0

-- the same jobs with time running backwards from H
unfoldable pub turned : Face → Face
turned F = record {
  n = F.n;
  early = of_job F.n (λ j. horizon - F.late j);
  late = of_job F.n (λ j. horizon - F.early j);
  duration = F.duration;
  gap = λ i j. F.gap j i;
}

-- the same jobs with other windows
abbrev pub with_windows : Face → (ℕ → ℕ) → (ℕ → ℕ) → Face
with_windows F early late = record {
  n = F.n;
  early = of_job F.n early;
  late = of_job F.n late;
  duration = F.duration;
  gap = F.gap;
}

-- when a job can finish at the earliest, and has to start at the latest
abbrev pub earliest_finish : Face → ℕ → ℕ
earliest_finish F j = F.early j + F.duration j

abbrev pub latest_start : Face → ℕ → ℕ
latest_start F j = F.late j - F.duration j
