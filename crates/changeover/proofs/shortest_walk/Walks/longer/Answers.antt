use Rattle.std.proofs.Common.{◌≡◌, ℕ, ◌+◌, ◌≤◌, cond, get_or, nat_lt, ⊎_elim, ◌∙◌, arith, rules}
use borrow.Author.Tests.{tests}
use Rattle.std.proofs.lemmas.Bool.{cond-true, lt-ltb, cases_lt, cond_both}
use Rattle.std.proofs.lemmas.List.{get_or_past}
use Rattle.changeover.specs.Kinds.{least, but}
use Rattle.changeover.specs.Table.{gap_of, jobs_of}
use Rattle.changeover.proofs.Chains.{filled}
use Rattle.changeover.proofs.Leasts.{least_top}
use Rattle.changeover.proofs.shortest_walk.Walks.longer.Goals as goal

pub invariant_of-result : goal.invariant_of-result
invariant_of-result c =
    let n = jobs_of c.args.gaps.now in
    let into : ℕ → ℕ = λ j. least 400000 n (but 400000 j (λ i. get_or c.args.self.now.into i 0 + gap_of c.args.gaps.now i j)) in
    let val : ℕ → ℕ = λ j. cond (nat_lt j n) (into j) 0 in
    record {
      long = search rules;
      small = λ j.
          ⊎_elim
          (λ lt. let e : get_or c.from_fn.result j 0 ≡ val j = filled _ c.from_fn.result 0 val (λ x r q k. search (rules, tests)) 32 j c.from_fn.ensures.items lt in let s : val j ≤ 400000 = cond_both (nat_lt j n) (into j) 0 (λ y. y ≤ 400000) (λ _. least_top 400000 n _) (λ _. omega arith) in omega arith)
          (λ le. let e = get_or_past c.from_fn.result j 0 (omega (arith)) in omega arith)
          (cases_lt j 32);
    }

pub returns : goal.returns
returns c j h =
    let n = jobs_of c.args.gaps.now in
    let into : ℕ → ℕ = λ j. least 400000 n (but 400000 j (λ i. get_or c.args.self.now.into i 0 + gap_of c.args.gaps.now i j)) in
    let val : ℕ → ℕ = λ j. cond (nat_lt j n) (into j) 0 in
    filled _ c.from_fn.result 0 val (λ x r q k. search (rules, tests)) 32 j c.from_fn.ensures.items (omega (arith, c.args.gaps.now.few)) ∙ cond-true _ _ _ (lt-ltb j n h)
