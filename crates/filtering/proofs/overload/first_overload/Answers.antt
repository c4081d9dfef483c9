use Rattle.std.proofs.Common.{◌≡◌, ℕ, ◌+◌, Bool, false, sym, ap, ◌∙◌, arith}
use Rattle.rules.specs.Rules.{too_much}
use Rattle.face.specs.Readings.{bound_of, read}
use Rattle.face.specs.Orders.{HasRank, firsts}
use Rattle.face.specs.WhiteTrees.{Holds}
use Rattle.face.proofs.Ranks.{rank_below}
use Rattle.face.proofs.Whites.{holds_same}
use Rattle.rules.specs.Rules.{with_job}
use Rattle.filtering.proofs.Lates.{firsts_with, too_much_is, seen_more, overloading_none, overloading_some}
use Rattle.filtering.proofs.overload.first_overload.Goals as goal

pub returns-then-is_above : goal.returns-then-is_above
returns-then-is_above g c =
    let F = read c.args.reading.now in
    let b = g.W.Numbers.at (bound_of c.args.reading.now) in
    let t = c.loop-t.t in
    let j = c.late_job-j.result in
    let S : ℕ → Bool = firsts F.n F.late t in
    let S' : ℕ → Bool = firsts F.n F.late (t + 1) in
    let at : HasRank F.n F.late t j = c.late_job-j.ensures.job (omega (arith, ap (λ x. x.n) c.face.ensures)) in
    let h : Holds F b S' c.enter.new.self = holds_same F b (with_job j S) S' c.enter.new.self (firsts_with F.n F.late j t at) (c.enter.ensures S c.loop-t.invariant.0) in
    let is = too_much_is F b j t c.finish.result c.late-late.result at (c.finish.ensures F b S' h) (c.late-late.ensures.value ∙ ap (λ x. x.late j) c.face-in-loop-t.ensures) in
    let test = c.is_above.ensures in
    overloading_some F b j t at (sym is ∙ sym test ∙ c.if-is_above.true) c.loop-t.invariant.1

pub loop-t-preserved : goal.loop-t-preserved
loop-t-preserved g c =
    let F = read c.args.reading.now in
    let b = g.W.Numbers.at (bound_of c.args.reading.now) in
    let t = c.loop-t.t in
    let j = c.late_job-j.result in
    let S : ℕ → Bool = firsts F.n F.late t in
    let S' : ℕ → Bool = firsts F.n F.late (t + 1) in
    let at : HasRank F.n F.late t j = c.late_job-j.ensures.job (omega (arith, ap (λ x. x.n) c.face.ensures)) in
    let h : Holds F b S' c.enter.new.self = holds_same F b (with_job j S) S' c.enter.new.self (firsts_with F.n F.late j t at) (c.enter.ensures S c.loop-t.invariant.0) in
    let is = too_much_is F b j t c.finish.result c.late-late.result at (c.finish.ensures F b S' h) (c.late-late.ensures.value ∙ ap (λ x. x.late j) c.face-in-loop-t.ensures) in
    let test = c.is_above.ensures in
    (h, seen_more F.n F.late (λ k. too_much F b k ≡ false) j t at c.loop-t.invariant.1 (sym is ∙ sym test ∙ c.if-is_above.false))

pub returns : goal.returns
returns g c =
    let F = read c.args.reading.now in
    overloading_none F (g.W.Numbers.at (bound_of c.args.reading.now)) (λ k hk. c.loop-t.invariant.1 k hk (omega (arith, ap (λ x. x.n) c.face.ensures, rank_below F.late F.n k hk)))
