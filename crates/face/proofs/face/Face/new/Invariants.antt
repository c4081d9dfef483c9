use Rattle.std.proofs.Common.{◌≡◌, ℕ, ◌<◌, length, get_or}
use Rattle.face.specs.Shown.{no_job}
use Rattle.face.proofs.face.Face.new.Given as goal

abbrev pub invariant-loop-j : goal.invariant-loop-j
invariant-loop-j l =
    (length l.job-items ≡ length l.jobs)
    × ((k : ℕ) → k < l.j → get_or l.job-items k no_job ≡ get_or l.jobs k no_job)
