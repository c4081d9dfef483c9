-- What chains over 0, 1, .. n - 1 and `array::from_fn` give, where a call leaves the closure as it was. Assumes nothing.
use Rattle.std.proofs.Common.{◌≡◌, ℕ, zero, suc, ◌+◌, ◌-◌, ◌<◌, ◌≤◌, Bool, true, false, List, map, length, get_or, slice_index_or, Some, None, Option, refl, sym, ap, ◌∙◌, subst, arith, Bor, not-suc-le-zero}
use Rattle.std.specs.Fn.{Called, CalledAt}
use Rattle.std.specs.Array.{IsFromFnResult, IsFromFnResultFrom}
use Rattle.std.specs.Bool.{⊤, MatchBool}
use Rattle.std.specs.Iterator.{YieldsThen, ActsAs, ActsAsAt, ActsAsOnTwo}
use Rattle.std.specs.Iterator.Runs.{Run, WholeRun, EachRunFrom, SomeRun, IsMapRun, IsFilterRun}
use Rattle.std.specs.List.{AllWithin, HoldsAt, FoldsTo, fold, filter, range_with_len}
use Rattle.std.specs.Option.{unwrap_or, MatchOption}
use Rattle.std.specs.declared.ops.Range.{Range}
use Rattle.std.proofs.iter.Yields.{nat_range_steps}
use Rattle.std.proofs.iter.runs.Sources.{range_runs}
use Rattle.std.proofs.lemmas.List.FromFn.{fill_by_all, length-range_with_len, get_or-range_with_len}
use Rattle.std.proofs.lemmas.Iterator.{first_from_Range, cases_from_all, YieldsList-from_range}
use denote.Param.Members.{Mut}

module _ {F B : Type 0} {g : Mut F (ℕ × Unit {0}) B} (f : F) (ys : List B) (d : B) (val : ℕ → B) (acts : ActsAs g f val) where
  filled_from : (n i k j : ℕ) → i + k ≡ j → IsFromFnResultFrom g f ys i n → k < n → slice_index_or ys j d ≡ val j
  filled_from zero i k j at made h = absurd (not-suc-le-zero h)
  filled_from (suc n) i zero j at (q, y, is, called, rest) h = subst (λ x. slice_index_or ys x d ≡ val x) (omega (arith, at)) (is.1 d ∙ (acts i y q called).1)
  filled_from (suc n) i (suc k) j at (q, y, is, called, rest) h =
      filled_from n (i + 1) k j (omega (arith, at)) (subst (λ p. IsFromFnResultFrom g p ys (i + 1) n) (acts i y q called).0 rest) (omega arith)

  -- each place holds what the closure gives of it
  pub filled : (n k : ℕ) → IsFromFnResult g f ys n → k < n → slice_index_or ys k d ≡ val k
  filled n k made h = filled_from n 0 k k (omega arith) made.each h

-- the items of a whole run over a range from 0
counted : (p : Run nat_range_steps) (n : ℕ) → p.from ≡ record { start = 0; end = n } → p.whole ≡ true → p.items ≡ range_with_len 0 n
counted p n from whole =
    let up = range_runs p p.seen in
    let long : p.len ≡ n = up.1 whole ∙ ap (λ r. r.end - r.start) from ∙ omega arith in
    let each : (k : ℕ) → k < n → get_or p.items k 0 ≡ k = λ k h.
    let read = ap (λ o. unwrap_or o 0) (sym (p.reads k 0 (omega (arith, long))) ∙ up.3 k (omega (arith, long))) in
    let start = ap (λ r. r.start) from in
    omega (arith, read, start) in
    fill_by_all (λ k. k) p.items n 0 (omega (arith, p.long, long)) each
    ∙ sym (fill_by_all (λ k. k) (range_with_len 0 n) n 0 (length-range_with_len 0 n) (λ k h. omega (arith, get_or-range_with_len 0 n k 0 h)))

module _ {S T F M P A B : Type 0} {steps : S → Option B → S → Type 0} {source : T → Option ℕ → T → Type 0} where
  -- what a fold over the mapped numbers that pass gives
  pub folded : {s : S} {t : T} {r : Range ℕ} {g : Mut F (A × (B × Unit {0})) A} {m : Mut M (ℕ × Unit {0}) B} {p : Mut P (Bor ℕ × Unit {0}) Bool} (f : F) (v : M) (w : P) (result init : A) (op : A → B → A) (val : ℕ → B) (test : ℕ → Bool) (n : ℕ)
      → WholeRun steps s (λ p. (h : A → B → A) → ActsAsOnTwo g f h → result ≡ fold h init p.items)
      → EachRunFrom steps s (λ a. SomeRun source t (λ b. IsMapRun a b m v))
      → EachRunFrom source t (λ a. SomeRun nat_range_steps r (λ b. IsFilterRun a b p w))
      → r ≡ record { start = 0; end = n } → ActsAsOnTwo g f op → ActsAs m v val → ActsAsAt p w test
      → result ≡ fold op init (map val (filter test (range_with_len 0 n)))
  folded f v w result init op val test n folds maps keeps is ops vals tests =
      let a = folds.0 in
      let b = maps a a.seen folds.1 in
      let e = keeps b.0 b.0.seen b.1 in
      let kept = e.2.4 test tests in
      let mapped = b.2.3 val vals in
      let all = counted e.0 n (e.1 ∙ is) (e.2.0 ∙ b.2.0 ∙ folds.2) in
      folds.3 op ops ∙ ap (fold op init) (mapped ∙ ap (map val) (kept ∙ ap (filter test) all))

module _ {S F M A B : Type 0} {steps : S → Option B → S → Type 0} where
  -- what a fold over the mapped numbers gives
  pub folded_all : {s : S} {r : Range ℕ} {g : Mut F (A × (B × Unit {0})) A} {m : Mut M (ℕ × Unit {0}) B} (f : F) (v : M) (result init : A) (op : A → B → A) (val : ℕ → B) (n : ℕ)
      → WholeRun steps s (λ p. (h : A → B → A) → ActsAsOnTwo g f h → result ≡ fold h init p.items)
      → EachRunFrom steps s (λ a. SomeRun nat_range_steps r (λ b. IsMapRun a b m v))
      → r ≡ record { start = 0; end = n } → ActsAsOnTwo g f op → ActsAs m v val
      → result ≡ fold op init (map val (range_with_len 0 n))
  folded_all f v result init op val n folds maps is ops vals =
      let a = folds.0 in
      let b = maps a a.seen folds.1 in
      folds.3 op ops ∙ ap (fold op init) (b.2.3 val vals ∙ ap (map val) (counted b.0 n (b.1 ∙ is) (b.2.0 ∙ folds.2)))

-- what `find` over the numbers below n gives
module _ {F : Type 0} {g : Mut F (Bor ℕ × Unit {0}) Bool} (u : Range ℕ) (f : F) (result : Option ℕ) (test : ℕ → Bool) (n : ℕ) where
  pub found : (xs : List ℕ) × (j : F) × YieldsThen nat_range_steps (record { start = 0; end = n }) xs result u × FoldsTo (λ p x q. CalledAt g p x false q) f xs j × MatchOption result ⊤ (λ x. (h : F) × CalledAt g j x true h)
      → ActsAsAt g f test
      → MatchOption result ((k : ℕ) → k < n → test k ≡ false) (λ i. (i < n) × (test i ≡ true) × ((k : ℕ) → k < i → test k ≡ false))
  found ran acts = go result (first_from_Range _ u f result (λ k. test k ≡ true) (λ k. test k ≡ false) ran (λ x q k. sym (acts x true q k).1) (λ x q k. ((acts x false q k).0, sym (acts x false q k).1)))
    where
      go : (o : Option ℕ) → MatchOption o ((k : ℕ) → 0 ≤ k → k < n → test k ≡ false) (λ i. (0 ≤ i) × (i < n) × (test i ≡ true) × ((k : ℕ) → 0 ≤ k → k < i → test k ≡ false)) → MatchOption o ((k : ℕ) → k < n → test k ≡ false) (λ i. (i < n) × (test i ≡ true) × ((k : ℕ) → k < i → test k ≡ false))
      go None h = λ k l. h k (omega arith) l
      go (Some i) h = (h.1, h.2, λ k l. h.3 k (omega arith) l)

-- what `all` over the numbers below n says
module _ {F : Type 0} {g : Mut F (ℕ × Unit {0}) Bool} (u : Range ℕ) (f : F) (result : Bool) (test : ℕ → Bool) (n : ℕ) where
  pub every : (xs : List ℕ) × (o : Option ℕ) × (j : F) × YieldsThen nat_range_steps (record { start = 0; end = n }) xs o u × FoldsTo (λ p x q. Called g p (x, tt) true q) f xs j × MatchOption o (result ≡ true) (λ x. (result ≡ false) × ((h : F) × Called g j (x, tt) false h))
      → ActsAs g f test
      → MatchBool result ((k : ℕ) → k < n → test k ≡ true) ((k : ℕ) × (k < n) × (test k ≡ false))
  every ran acts = go result (cases_from_all u f result (λ k. test k ≡ true) (λ k. test k ≡ false) ran (YieldsList-from_range 0 n n refl (omega arith)) (λ x q k. ((acts x true q k).0, sym (acts x true q k).1)) (λ x q k. sym (acts x false q k).1))
    where
      all : List ℕ
      all = range_with_len 0 n

      go : (b : Bool) → MatchBool b (AllWithin (λ k. test k ≡ true) all 0 (length all)) ((k : ℕ) × (k < length all) × HoldsAt (λ k. test k ≡ false) all k) → MatchBool b ((k : ℕ) → k < n → test k ≡ true) ((k : ℕ) × (k < n) × (test k ≡ false))
      go true h = λ k l. subst (λ x. test x ≡ true) (get_or-range_with_len 0 n k 0 l ∙ omega arith) (h k 0 (omega arith) (omega (arith, length-range_with_len 0 n)))
      go false (k, l, h) = let l' : k < n = omega (arith, length-range_with_len 0 n) in (k, l', subst (λ x. test x ≡ false) (get_or-range_with_len 0 n k 0 l' ∙ omega arith) (h 0))
