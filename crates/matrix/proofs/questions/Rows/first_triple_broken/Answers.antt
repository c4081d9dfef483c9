use Rattle.std.proofs.Common.{sym, arith}
use Rattle.matrix.specs.Matrix.{broken}
use Rattle.matrix.proofs.Searches.{first_more, first_all, first_found}
use Rattle.matrix.proofs.Matrices.{passes_at, breaks_at, to_row, from_row}
use Rattle.matrix.proofs.questions.Rows.first_triple_broken.Goals as goal

pub loop-via-preserved : goal.loop-via-preserved
loop-via-preserved c =
    let m = c.args.self.now.setups in
    let numbers = c.args.self.now.numbers.now in
    let a = c.loop-from.from in
    let b = c.loop-to.to in
    let v = c.loop-via.via in
    first_more (broken m numbers a b) v (omega arith) c.loop-via.invariant (passes_at m numbers a b v c.if-breaks_triangle.ensures)

pub loop-to-preserved : goal.loop-to-preserved
loop-to-preserved c =
    let m = c.args.self.now.setups in
    let numbers = c.args.self.now.numbers.now in
    let a = c.loop-from.from in
    let b = c.loop-to.to in
    let all = first_all (broken m numbers a b) c.loop-via.via m (omega arith) (omega arith) c.loop-via.invariant in
    first_more (to_row m numbers a) b (omega arith) c.loop-to.invariant all

pub loop-from-preserved : goal.loop-from-preserved
loop-from-preserved c =
    let m = c.args.self.now.setups in
    let numbers = c.args.self.now.numbers.now in
    let a = c.loop-from.from in
    let all = first_all (to_row m numbers a) c.loop-to.to m (omega arith) (omega arith) c.loop-to.invariant in
    first_more (from_row m numbers) a (omega arith) c.loop-from.invariant all

pub returns-then-breaks_triangle : goal.returns-then-breaks_triangle
returns-then-breaks_triangle c =
    let m = c.args.self.now.setups in
    let numbers = c.args.self.now.numbers.now in
    let a = c.loop-from.from in
    let b = c.loop-to.to in
    let v = c.loop-via.via in
    let here = breaks_at m numbers a b v c.if-breaks_triangle.ensures in
    let via = first_found (broken m numbers a b) v m _ (omega arith) (omega arith) c.loop-via.invariant here in
    let to = first_found (to_row m numbers a) b m _ (omega arith) (omega arith) c.loop-to.invariant via in
    sym (first_found (from_row m numbers) a m _ (omega arith) (omega arith) c.loop-from.invariant to)

pub returns-after-loop-from : goal.returns-after-loop-from
returns-after-loop-from c = sym (first_all (from_row c.args.self.now.setups c.args.self.now.numbers.now) c.loop-from.from c.args.self.now.setups (omega arith) (omega arith) c.loop-from.invariant)
