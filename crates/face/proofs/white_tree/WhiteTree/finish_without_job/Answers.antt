use Rattle.std.proofs.Common.{ℕ, ◌+◌, ◌<◌, Bool, length, get_or, arith}
use Rattle.theta.specs.Lifts.{place_of, leaf_of}
use Rattle.theta_nodes.specs.White.{empty_white}
use Rattle.face.specs.declared.white_tree.WhiteTree.{WhiteTree}
use Rattle.face.specs.Readings.{bound_of, read}
use Rattle.face.specs.WhiteTrees.{Holds, but}
use Rattle.face.proofs.Fines.{fine}
use Rattle.face.proofs.Whites.{lift_read, holds_lifted, holds_back}
use Rattle.face.proofs.white_tree.WhiteTree.finish_without_job.Goals as goal

pub returns : goal.returns
returns g c =
    let R = c.args.reading.now in
    let F = read R in
    let b = g.W.Numbers.at (bound_of c.args.reading.now) in
    let i = c.args.i in
    let T = c.args.self.now in
    let T₁ : WhiteTree = record { nodes = c.lift.new.nodes } in
    let T₂ : WhiteTree = record { nodes = c.set_back.new.nodes } in
    let few = (fine R.orders.face).few in
    let inside : i < F.n = omega arith in
    let at = c.place.ensures.value inside in
    let token = c.in-Ok.token in
    let was = lift_read (length T.nodes) c.place.result (place_of token) c.in-Ok.field-0-1 (leaf_of token) (get_or T.nodes (31 + c.place.result) empty_white) c.in-Ok.ensures.answer in
    let out : (S : ℕ → Bool) → Holds F b S T → Holds F b (but i S) T₁ = λ S h. holds_lifted F b few S T T₁ i c.place.result inside at (c.in-Ok.ensures.fresh (λ x. x)) h in
    record {
      value = λ S h. c.finish-finish.ensures F b (but i S) (out S h);
      kept = λ S h. holds_back F b few S T T₁ T₂ i c.place.result (place_of token) (leaf_of token) inside at was.0 was.1 (c.in-Ok-set_back.ensures.fresh (λ x. x)) h (out S h);
    }
