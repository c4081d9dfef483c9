use Rattle.std.proofs.Common.{◌≡◌, ℕ, ◌<◌, length}
use Rattle.rules.specs.Places.{count}
use Rattle.face.specs.Readings.{bound_of, read}
use Rattle.filtering.specs.Edges.{flagged, Coloured, Moved}
use Rattle.filtering.proofs.edges.Edges.resolve.Given as goal

abbrev pub invariant-loop-i : goal.invariant-loop-i
invariant-loop-i g l =
    (length l.self.grey ≡ 32)
    × (length l.self.early ≡ 32)
    × Coloured (read l.reading) (g.W.Numbers.at (bound_of l.reading)) l.j l.self.grey l.self.tree
    × ((k : ℕ) → k < (read l.reading).n → Moved (read l.reading) (g.W.Numbers.at (bound_of l.reading)) l.j l.initial.self.grey l.initial.self.early l.self.grey l.self.early k)

abbrev pub decreases-loop-i : goal.decreases-loop-i
decreases-loop-i g l = count (flagged l.self.grey) 32
