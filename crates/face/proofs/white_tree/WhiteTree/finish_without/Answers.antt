use Rattle.std.proofs.Common.{sym, ◌∙◌, arith}
use Rattle.face.specs.Readings.{bound_of, read}
use Rattle.face.proofs.Fines.{fine}
use Rattle.face.proofs.Whites.{E_outside}
use Rattle.face.proofs.white_tree.WhiteTree.finish_without.Goals as goal

pub returns-then-i-jobs-clause-value : goal.returns-then-i-jobs-clause-value
returns-then-i-jobs-clause-value g c =
    let R = c.args.reading.now in
    let b = g.W.Numbers.at (bound_of R) in
    λ S h. c.finish.ensures (read R) b S h ∙ sym (E_outside (read R) b (fine R.orders.face).few S c.args.i (omega arith))
