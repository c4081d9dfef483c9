use Rattle.std.proofs.Common.{◌≡◌, ℕ, ◌<◌, ◌≤◌, length, get_or}
use Rattle.face.specs.Readings.{bound_of, read}
use Rattle.face.specs.Orders.{firsts}
use Rattle.face.specs.GreyTrees.{HoldsBoth}
use Rattle.filtering.specs.Edges.{flagged}
use Rattle.filtering.proofs.Walks.{Walked}
use Rattle.filtering.proofs.overload.Calm.edge_earlies.Given as goal

abbrev pub invariant-loop-t : goal.invariant-loop-t
invariant-loop-t g l =
    (l.t ≤ (read l.reading).n)
    × (length l.edges.grey ≡ 32)
    × (length l.edges.early ≡ 32)
    × HoldsBoth (read l.reading) (g.W.Numbers.at (bound_of l.reading)) (firsts (read l.reading).n (read l.reading).late l.t) (flagged l.edges.grey) l.edges.tree
    × ((i : ℕ) → i < (read l.reading).n → Walked (read l.reading) (g.W.Numbers.at (bound_of l.reading)) l.t i (flagged l.edges.grey i) (get_or l.edges.early i 0))

abbrev pub decreases-loop-t : goal.decreases-loop-t
decreases-loop-t g l = l.t
