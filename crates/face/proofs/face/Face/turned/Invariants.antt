use Rattle.std.proofs.Common.{◌≡◌, ℕ, ◌-◌, ◌<◌, length, get_or}
use Rattle.changeover.specs.Table.{jobs_of}
use Rattle.face.specs.Shown.{shown, no_job}
use Rattle.face.proofs.face.Face.turned.Given as goal

abbrev pub invariant-loop-j : goal.invariant-loop-j
invariant-loop-j l =
    (length l.job-items ≡ jobs_of l.self.gaps)
    × ((k : ℕ) → k < l.j → get_or l.job-items k no_job ≡ record { duration = (shown l.self).duration k; early = 1000000 - (shown l.self).late k; late = 1000000 - (shown l.self).early k })
