use Rattle.std.proofs.Common.{false, ltb}
use Rattle.face.specs.Readings.{bound_of, read}
use Rattle.face.specs.GreyTrees.{HoldsBoth}
use Rattle.filtering.proofs.edges.all_white.Given as goal

abbrev pub invariant-loop-j : goal.invariant-loop-j
invariant-loop-j g l = HoldsBoth (read l.reading) (g.W.Numbers.at (bound_of l.reading)) (λ k. ltb k l.j) (λ _. false) l.tree
