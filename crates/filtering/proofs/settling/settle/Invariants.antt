use Rattle.rules.specs.Settling.{all_minutes}
use Rattle.face.specs.Shown.{shown}
use Rattle.filtering.proofs.Runs.{Came}
use Rattle.filtering.proofs.settling.settle.Given as goal

abbrev pub invariant-loop-stopped : goal.invariant-loop-stopped
invariant-loop-stopped g l = Came (g.B.Worked.Numbers.at l.b) (shown l.face) (shown l.current) l.rounds

abbrev pub decreases-loop-stopped : goal.decreases-loop-stopped
decreases-loop-stopped g l = all_minutes (shown l.current)
