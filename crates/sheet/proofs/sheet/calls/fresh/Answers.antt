use Rattle.std.proofs.Common.{ap, subst}
use Rattle.matrix.specs.Matrix.{Judged}
use Rattle.matrix.proofs.Matrices.{judged}
use Rattle.rules.specs.Models.{reopened}
use Rattle.sheet.proofs.Effects.{fresh_as, fresh_good}
use Rattle.sheet.proofs.sheet.calls.fresh.Goals as goal

pub laid_out-requires : goal.laid_out-requires
laid_out-requires c = (subst (Judged c.args.setups c.args.numbers.now) c.requires (judged c.args.setups c.args.numbers.now)).complete

pub invariant_of-result : goal.invariant_of-result
invariant_of-result c =
    let m = c.args.setups in
    let numbers = c.args.numbers.now in
    record { sound = fresh_good m numbers _ c.requires (fresh_as m numbers _ _ c.laid_out.ensures c.new.ensures) }

pub returns : goal.returns
returns c = ap reopened (fresh_as c.args.setups c.args.numbers.now _ _ c.laid_out.ensures c.new.ensures)
