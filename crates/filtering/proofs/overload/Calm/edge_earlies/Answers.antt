use Rattle.std.proofs.Common.{◌≡◌, ℕ, ◌+◌, ◌-◌, ◌<◌, true, false, length, get_or, replicate, set, refl, ap, ◌∙◌, subst, arith, length-set}
use Rattle.std.proofs.lemmas.List.{get_or-replicate}
use Rattle.std.proofs.lemmas.Bool.{lt-ltb}
use Rattle.rules.specs.Rules.{up_to, with_job}
use Rattle.face.specs.Readings.{bound_of, read}
use Rattle.face.specs.Orders.{HasRank, firsts}
use Rattle.face.specs.WhiteTrees.{but}
use Rattle.face.specs.GreyTrees.{HoldsBoth}
use Rattle.face.proofs.Fines.{fine}
use Rattle.face.proofs.Ranks.{rank_below}
use Rattle.face.proofs.Greys.{both_same}
use Rattle.filtering.specs.Edges.{flagged}
use Rattle.filtering.proofs.Lates.{up_to_firsts, calm}
use Rattle.filtering.proofs.Walks.{Walked, walked_none, walked_more, walked_all, walked_apart, up_to_self, firsts_fewer, flags_more}
use Rattle.filtering.proofs.overload.Calm.edge_earlies.Goals as goal

pub loop-t-init : goal.loop-t-init
loop-t-init g c =
    let F = read c.args.self.now.reading.now in
    let b = g.W.Numbers.at (bound_of c.args.self.now.reading.now) in
    let many : c.jobs-t.result ≡ F.n = c.jobs-t.ensures.value ∙ ap (λ x. x.n) c.face.ensures in (
      omega arith,
      refl,
      refl,
      c.all_white.ensures (firsts F.n F.late c.jobs-t.result) (flagged (replicate 32 false)) (λ k hk. lt-ltb _ _ (omega (arith, rank_below F.late F.n k hk))) (λ k hk. get_or-replicate 32 k false false (omega (arith, hk, (fine c.args.self.now.reading.now.orders.face).few))),
      λ i hi. walked_none F b c.jobs-t.result i (flagged (replicate 32 false) i) (get_or (replicate 32 0) i 0) (omega (arith, rank_below F.late F.n i hi)) (get_or-replicate 32 i false false (omega (arith, hi, (fine c.args.self.now.reading.now.orders.face).few))) (get_or-replicate 32 i 0 0 (omega (arith, hi, (fine c.args.self.now.reading.now.orders.face).few))),
    )

pub resolve-requires : goal.resolve-requires
resolve-requires g c =
    let F = read c.args.self.now.reading.now in
    let b = g.W.Numbers.at (bound_of c.args.self.now.reading.now) in
    let t : ℕ = c.loop-t.t - 1 in
    let j = c.late_job-j.result in
    let next : c.loop-t.t ≡ t + 1 = omega arith in
    let at : HasRank F.n F.late t j = c.late_job-j.ensures.job (omega (arith, c.loop-t.invariant.0)) in
    let walked : (i : ℕ) → i < F.n → Walked F b (t + 1) i (flagged c.loop-t.edges.grey i) (get_or c.loop-t.edges.early i 0) = λ i hi. subst (λ s. Walked F b s i (flagged c.loop-t.edges.grey i) (get_or c.loop-t.edges.early i 0)) next (c.loop-t.invariant.4 i hi) in
    let holds : HoldsBoth F b (firsts F.n F.late (t + 1)) (flagged c.loop-t.edges.grey) c.loop-t.edges.tree = subst (λ s. HoldsBoth F b (firsts F.n F.late s) (flagged c.loop-t.edges.grey) c.loop-t.edges.tree) next c.loop-t.invariant.3 in
    record {
      calm = calm F b c.args.self.now.calm j at.0;
      apart = walked_apart F b j t at c.loop-t.edges.grey c.loop-t.edges.early walked;
      holds = both_same F b (firsts F.n F.late (t + 1)) (flagged c.loop-t.edges.grey) (up_to F j) (flagged c.loop-t.edges.grey) c.loop-t.edges.tree (up_to_firsts F j t at) (λ k _. refl) holds;
    }

pub loop-t-preserved : goal.loop-t-preserved
loop-t-preserved g c =
    let F = read c.args.self.now.reading.now in
    let b = g.W.Numbers.at (bound_of c.args.self.now.reading.now) in
    let t : ℕ = c.loop-t.t - 1 in
    let j = c.late_job-j.result in
    let next : c.loop-t.t ≡ t + 1 = omega arith in
    let at : HasRank F.n F.late t j = c.late_job-j.ensures.job (omega (arith, c.loop-t.invariant.0)) in
    let walked : (i : ℕ) → i < F.n → Walked F b (t + 1) i (flagged c.loop-t.edges.grey i) (get_or c.loop-t.edges.early i 0) = λ i hi. subst (λ s. Walked F b s i (flagged c.loop-t.edges.grey i) (get_or c.loop-t.edges.early i 0)) next (c.loop-t.invariant.4 i hi) in
    let greys = c.resolve.new.self.grey in
    let many : length greys ≡ 32 = c.resolve.ensures.long.0 in
    let long : j < length greys = omega (arith, at.0, (fine c.args.self.now.reading.now.orders.face).few) in (
      omega (arith, c.loop-t.invariant.0),
      length-set greys j true ∙ many,
      c.resolve.ensures.long.1,
      both_same F b (but j (up_to F j)) (with_job j (flagged greys)) (firsts F.n F.late t) (flagged (set greys j true)) c.grey.new.self (firsts_fewer F b j t at) (flags_more F b j t at greys long) (c.grey.ensures (up_to F j) (flagged greys) (up_to_self F b j t at) c.resolve.ensures.coloured.holds),
      walked_more F b j t at c.loop-t.edges.grey greys c.loop-t.edges.early c.resolve.new.self.early long walked c.resolve.ensures.moved c.resolve.ensures.quiet,
    )

pub returns : goal.returns
returns g c =
    let F = read c.args.self.now.reading.now in
    let b = g.W.Numbers.at (bound_of c.args.self.now.reading.now) in
    let none : c.loop-t.t ≡ 0 = omega arith in
    λ i hi. walked_all F b i (flagged c.loop-t.edges.grey i) (get_or c.loop-t.edges.early i 0) hi (subst (λ s. Walked F b s i (flagged c.loop-t.edges.grey i) (get_or c.loop-t.edges.early i 0)) none (c.loop-t.invariant.4 i hi))
