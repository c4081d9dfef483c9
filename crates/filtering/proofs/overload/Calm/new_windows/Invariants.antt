use Rattle.std.proofs.Common.{◌≡◌, ℕ, ◌<◌, min, length, get_or}
use Rattle.rules.specs.Books.{no_window}
use Rattle.rules.specs.Faces.{of_job}
use Rattle.face.specs.Shown.{shown}
use Rattle.filtering.specs.Ends.{early_from}
use Rattle.filtering.proofs.overload.Calm.new_windows.Given as goal

abbrev pub invariant-loop-i : goal.invariant-loop-i
invariant-loop-i g l =
    (length l.window-items ≡ (shown l.face).n)
    × ((k : ℕ) → k < l.i → get_or l.window-items k no_window ≡ record { early = of_job (shown l.face).n (early_from (shown l.face) (get_or l.detected k 0) (get_or l.edges k 0)) k; late = min ((shown l.face).late k) (get_or l.not_last k 0) })
