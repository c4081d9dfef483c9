use Rattle.std.proofs.Common.{◌≡◌, ℕ, ◌<◌, ◌≤◌, length, get_or}
use Rattle.changeover.specs.Kinds.{least, walk}
use Rattle.changeover.specs.Table.{gap_of, jobs_of}
use Rattle.changeover.proofs.shortest_walk.ShortestWalkBound.work_out.Given as goal

abbrev pub invariant-loop-place : goal.invariant-loop-place
invariant-loop-place l =
    (length l.walks.0 ≡ 32)
    × ((j : ℕ) → get_or l.walks.0 j 0 ≤ 400000)
    × ((j : ℕ) → j < jobs_of l.gaps → get_or l.walks.0 j 0 ≡ walk (jobs_of l.gaps) (gap_of l.gaps) l.place-index j)
    × ((k : ℕ) → k < l.place-index → get_or l.place-items k 0 ≡ least 400000 (jobs_of l.gaps) (walk (jobs_of l.gaps) (gap_of l.gaps) k))
    × (length l.place-items ≡ jobs_of l.gaps)
