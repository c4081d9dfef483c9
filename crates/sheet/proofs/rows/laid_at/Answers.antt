use Rattle.std.proofs.Common.{◌/◌, ◌%◌, arith}
use Rattle.std.proofs.lemmas.Nat.{mul-add-lt}
use Rattle.sheet.proofs.rows.laid_at.Goals as goal

pub bounds-numbers-width : goal.bounds-numbers-width
bounds-numbers-width c =
    let m = c.args.setups in
    let row = mul-add-lt (c.args.k / 16) m (c.args.k % 16) m (omega arith) (omega arith) in rw c.from-width.ensures (omega (arith, row))
