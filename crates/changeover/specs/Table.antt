-- What a table of gaps says. Assumes nothing.
use Rattle.std.specs.Prelude.{ℕ, ◌+◌, ◌*◌, min, Bool, cond, ◌&&◌, ◌==◌, nat_lt, slice_index}
use Rattle.changeover.specs.declared.gaps.Gaps.{Gaps}

-- how many jobs the table is of
abbrev pub jobs_of : Gaps → ℕ
jobs_of g = g.jobs

-- both are among the n jobs
abbrev pub among : ℕ → ℕ → ℕ → Bool
among n i j = nat_lt i n && nat_lt j n

-- the gap from job i to job j; 0 where one of them is not a job of the table
abbrev pub gap_of : Gaps → ℕ → ℕ → ℕ
gap_of g i j = cond (among g.jobs i j) (slice_index g.table (32 * i + j)) 0

-- the gaps once minutes are written from i to j: above 12,000 they count as 12,000, and without two such jobs nothing is written
abbrev pub with_gap : ℕ → (ℕ → ℕ → ℕ) → ℕ → ℕ → ℕ → ℕ → ℕ → ℕ
with_gap n gap i j minutes a b = cond (among n i j && (a == i && b == j)) (min minutes 12000) (gap a b)
