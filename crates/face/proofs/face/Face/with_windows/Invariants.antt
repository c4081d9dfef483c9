use Rattle.std.proofs.Common.{◌≡◌, ℕ, ◌<◌, length, get_or}
use Rattle.changeover.specs.Table.{jobs_of}
use Rattle.face.specs.Shown.{shown, no_job, early_end, late_end}
use Rattle.face.proofs.face.Face.with_windows.Given as goal

abbrev pub invariant-loop-j : goal.invariant-loop-j
invariant-loop-j l =
    (length l.job-items ≡ jobs_of l.self.gaps)
    × ((k : ℕ) → k < l.j → get_or l.job-items k no_job ≡ record { duration = (shown l.self).duration k; early = early_end l.windows k; late = late_end l.windows k })
