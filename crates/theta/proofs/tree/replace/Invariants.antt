use Rattle.std.proofs.Common.{◌≡◌, ℕ, ◌+◌, ◌≤◌}
use Rattle.theta.specs.Tree.{above, climbed}
use Rattle.theta.proofs.tree.replace.Given as goal

-- k levels are joined again
abbrev pub invariant-loop-at : goal.invariant-loop-at
invariant-loop-at g l = (k : ℕ) × (k ≤ 5) × (l.written ≡ k + 1) × (l.at ≡ above k l.place)
    × (l.nodes ≡ climbed g.N.Node.none (g.N.Node.joined (g.W.Numbers.at l.b)) l.initial.nodes l.place k)

abbrev pub decreases-loop-at : goal.decreases-loop-at
decreases-loop-at g l = l.at
