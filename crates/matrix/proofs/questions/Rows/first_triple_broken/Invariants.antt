use Rattle.std.proofs.Common.{◌≡◌, ◌-◌, None}
use Rattle.matrix.specs.Matrix.{first, broken}
use Rattle.matrix.proofs.questions.Rows.first_triple_broken.Given as goal

abbrev pub invariant-loop-from : goal.invariant-loop-from
invariant-loop-from l = first (λ a. first (λ b. first (broken l.self.setups l.self.numbers.now a b) l.self.setups) l.self.setups) (l.from - 1) ≡ None

abbrev pub invariant-loop-to : goal.invariant-loop-to
invariant-loop-to l = first (λ b. first (broken l.self.setups l.self.numbers.now l.from b) l.self.setups) (l.to - 1) ≡ None

abbrev pub invariant-loop-via : goal.invariant-loop-via
invariant-loop-via l = first (broken l.self.setups l.self.numbers.now l.from l.to) (l.via - 1) ≡ None
