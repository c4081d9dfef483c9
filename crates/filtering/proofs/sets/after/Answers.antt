use Rattle.std.proofs.Common.{◌≤◌, subst, arith}
use Rattle.filtering.specs.Sets.{AtMost}
use Rattle.filtering.proofs.sets.after.Goals as goal

pub overflow_add-result : goal.overflow_add-result
overflow_add-result g c =
    let finish : c.in_ok-finish.field-0 ≤ 1000000000 = subst (AtMost 1000000000) c.in_ok-finish.was c.requires.small in
    let gap : c.in_ok-least_gap.field-0 ≤ 12000 = c.in_ok-least_gap.ensures.small in
    omega arith
