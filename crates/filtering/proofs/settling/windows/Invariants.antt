use Rattle.std.proofs.Common.{◌≡◌, ℕ, ◌<◌, length, get_or}
use Rattle.rules.specs.Books.{no_window}
use Rattle.face.specs.Shown.{shown}
use Rattle.filtering.proofs.settling.windows.Given as goal

abbrev pub invariant-loop-j : goal.invariant-loop-j
invariant-loop-j l =
    (length l.window-items ≡ (shown l.face).n)
    × ((k : ℕ) → k < l.j → get_or l.window-items k no_window ≡ record { early = (shown l.face).early k; late = (shown l.face).late k })
