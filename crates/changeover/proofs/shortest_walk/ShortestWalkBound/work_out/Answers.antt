use Rattle.std.proofs.Common.{◌≡◌, ℕ, ◌+◌, ◌<◌, List, drop, replicate, sym, ◌∙◌, subst, arith, length-drop, length-append, length-set}
use mathlib.Core.Path.{fun_ext}
use Rattle.std.proofs.lemmas.List.{length-take}
use Rattle.changeover.specs.Kinds.{least, walk}
use Rattle.changeover.specs.Rows.{Lawful}
use Rattle.changeover.specs.Rules.{ShortestWalkRule}
use Rattle.changeover.specs.Table.{gap_of, jobs_of}
use Rattle.changeover.specs.Laws.{walk_lawful}
use Rattle.changeover.proofs.Exactly.{shortest_walk_rule}
use Rattle.changeover.proofs.Leasts.{least_same}
use Rattle.changeover.proofs.Places.{zero_at, each_set}
use Rattle.changeover.proofs.Tables.{gap_small}
use Rattle.changeover.proofs.Walks.{walk_more, shortest_then_zeros, shortest_first, shortest_small}
use Rattle.changeover.proofs.shortest_walk.ShortestWalkBound.work_out.Goals as goal

pub loop-place-init : goal.loop-place-init
loop-place-init c = (omega arith, (λ j. omega (arith, zero_at 32 j)), (λ j _. zero_at 32 j), (λ k h. absurd (omega arith)), omega (arith, length-take c.jobs.result (replicate {A = ℕ} 32 0)))

pub invariant_of-walks : goal.invariant_of-walks
invariant_of-walks c = record { long = c.loop-place.invariant.0; small = c.loop-place.invariant.1 }

pub loop-place-preserved : goal.loop-place-preserved
loop-place-preserved c =
    let n = jobs_of c.args.gaps.now in
    let gap = gap_of c.args.gaps.now in
    let e = c.loop-place.place-index in (
      c.longer-walks.result.long,
      c.longer-walks.result.small,
      λ j h. c.longer-walks.ensures j h ∙ walk_more n gap e j _ c.loop-place.invariant.2,
      each_set (λ k y. k < e + 1 → y ≡ least 400000 n (walk n gap k)) c.loop-place.place-items e c.shortest.result (omega arith) (λ k ne h. c.loop-place.invariant.3 k (omega arith)) (λ _. c.shortest.ensures ∙ least_same 400000 n _ _ c.loop-place.invariant.2),
      simp length-set c.loop-place.invariant.4,
    )

pub returns-clause-numbers : goal.returns-clause-numbers
returns-clause-numbers c =
    let gaps = c.args.gaps.now in
    shortest_then_zeros (jobs_of gaps) (gap_of gaps) c.loop-place.place-items c.jobs.result c.jobs.ensures.value c.loop-place.invariant.4 (λ k h. c.loop-place.invariant.3 k (omega arith))

pub invariant_of-result : goal.invariant_of-result
invariant_of-result c =
    let gaps = c.args.gaps.now in
    let n = jobs_of gaps in
    let xs = c.loop-place.place-items in
    let rest : List ℕ = drop c.jobs.result (replicate 32 0) in
    let all = shortest_then_zeros n (gap_of gaps) xs c.jobs.result c.jobs.ensures.value c.loop-place.invariant.4 (λ k h. c.loop-place.invariant.3 k (omega arith)) in
    record {
      long = omega (arith, length-append xs rest, length-drop c.jobs.result (replicate {A = ℕ} 32 0), c.loop-place.invariant.4);
      first = all 0 ∙ shortest_first n (gap_of gaps);
      small = λ e. omega (arith, all e, shortest_small n (gap_of gaps) e);
    }

pub returns-clause-lawful : goal.returns-clause-lawful
returns-clause-lawful c =
    let gaps = c.args.gaps.now in
    let n = jobs_of gaps in
    subst (Lawful n (gap_of gaps)) (sym (fun_ext (returns-clause-numbers c))) (walk_lawful n (gap_of gaps))

pub returns-clause-rule : goal.returns-clause-rule
returns-clause-rule c =
    let gaps = c.args.gaps.now in
    let n = jobs_of gaps in
    subst (ShortestWalkRule n (gap_of gaps)) (sym (fun_ext (returns-clause-numbers c))) (shortest_walk_rule n (gap_of gaps) gaps.few (gap_small gaps))
