-- What a chain over the first numbers gives: the first that passes, the greatest, the least. Assumes nothing.
use Rattle.std.proofs.Common.{◌≡◌, ℕ, zero, suc, ◌+◌, ◌<◌, ◌≤◌, max, Bool, true, false, cond, List, [], ◌∷◌, ◌++◌, map, Some, None, Option, sym, refl, ap, ◌∙◌, ⊎_elim, not-suc-le-zero, add-one, arith}
use Rattle.std.proofs.lemmas.Bool.{cases_eq}
use Rattle.std.proofs.lemmas.List.{map-append}
use Rattle.std.proofs.lemmas.List.Elements.{filter-append}
use Rattle.std.proofs.lemmas.List.Sums.{fold-append}
use Rattle.std.specs.Iterator.{ActsAs}
use Rattle.std.specs.Iterator.Runs.{Run, SomeRun, CallKeepsClosure, AllItemsGive, IsFirstToGive}
use Rattle.std.specs.List.{fold, filter, range_with_len}
use Rattle.std.specs.Option.{MatchOption, IsSomeAnd, IfSome, option_map}
use Rattle.std.specs.Bool.{IsTrue}
use Rattle.std.specs.Fn.{Called}
use Rattle.std.specs.declared.ops.Range.{Range}
use Rattle.std.proofs.iter.Yields.{nat_range_steps}
use Rattle.std.proofs.iter.runs.Sources.{range_runs}
use Rattle.rules.specs.Places.{first_such}
use Rattle.rules.specs.Rules.{greatest, lesser, least_over}
use Rattle.filtering.specs.Sets.{AtMost}
use denote.Param.Members.{Mut}

module _ (test : ℕ → Bool) where
  -- before the first turn of a loop that looks for the first that passes
  pub such_start : None ≡ first_such test 0
  unfolding first_such
  such_start = refl

  such_step : (k : ℕ) → None ≡ first_such test k → false ≡ test k → None ≡ first_such test (suc k)
  unfolding first_such
  such_step k none here = grind arith

  -- a turn that finds nothing
  pub such_more : (k : ℕ) → None ≡ first_such test k → false ≡ test k → None ≡ first_such test (k + 1)
  such_more k none here = rw add-one (such_step k none here)

  -- after the last turn
  pub such_end : (k n : ℕ) → k ≡ n → None ≡ first_such test k → None ≡ first_such test n
  such_end k n e none = none ∙ ap (first_such test) e

  -- where k is the first that passes
  pub such_at : (k n : ℕ) → None ≡ first_such test k → true ≡ test k → k < n → Some k ≡ first_such test n
  unfolding first_such
  such_at k zero none here h = absurd (not-suc-le-zero h)
  such_at k (suc n) none here h =
      ⊎_elim (λ e. let same : None ≡ first_such test n = none ∙ ap (first_such test) e in grind arith)
      (λ d. let found = such_at k n none here (omega arith) in grind arith)
      (cases_eq k n)

  -- where none passes nothing is found
  such_nowhere : (n : ℕ) → ((k : ℕ) → k < n → test k ≡ false) → None ≡ first_such test n
  unfolding first_such
  such_nowhere zero out = refl
  such_nowhere (suc n) out = such_step n (such_nowhere n (λ k h. out k (omega arith))) (sym (out n (omega arith)))

  -- what `find` over the numbers below n gives
  pub such_from : (n : ℕ) (o : Option ℕ) → MatchOption o ((k : ℕ) → k < n → test k ≡ false) (λ i. (i < n) × (test i ≡ true) × ((k : ℕ) → k < i → test k ≡ false)) → o ≡ first_such test n
  such_from n None out = such_nowhere n out
  such_from n (Some i) at = such_at i n (such_nowhere i at.2) (sym at.1) at.0

-- searches by tests that agree find the same
pub such_same : (f g : ℕ → Bool) (n : ℕ) → ((j : ℕ) → j < n → f j ≡ g j) → first_such f n ≡ first_such g n
unfolding first_such
such_same f g zero same = refl
such_same f g (suc n) same =
    let so_far = such_same f g n (λ j h. same j (omega arith)) in
    let here = same n (omega arith) in
    ap (λ o. elim o [ Some j ↦ Some j | None ↦ cond (f n) (Some n) None ]) so_far
    ∙ ap (λ t. elim (first_such g n) [ Some j ↦ Some j | None ↦ cond t (Some n) None ]) here

-- what `find_map` over the numbers below n gives
module _ {F B : Type 0} {g : Mut F (ℕ × Unit {0}) (Option B)} (f : F) (result : Option B) (val : ℕ → Option B) (n : ℕ) where
  pub found_map : {r : Range ℕ}
      → SomeRun nat_range_steps r (λ p. MatchOption result (IsTrue p.whole × AllItemsGive p g f None) (λ y. (i : ℕ) × (i < p.len) × (p.len ≡ i + 1) × IsFirstToGive p g f (Some y) None i))
      → r ≡ record { start = 0; end = n } → ActsAs g f val
      → MatchOption result ((k : ℕ) → k < n → None ≡ val k) (λ y. (i : ℕ) × (i < n) × (Some y ≡ val i) × ((k : ℕ) → k < i → None ≡ val k))
  found_map ran is acts = go result ran.2
    where
      p : Run nat_range_steps
      p = ran.0

      from : p.from ≡ record { start = 0; end = n }
      from = ran.1 ∙ is

      start : p.from.start ≡ 0
      start = ap (λ r. r.start) from

      end : p.from.end ≡ n
      end = ap (λ r. r.end) from

      same : CallKeepsClosure g f
      same x y f' called = (acts x.0 y f' called).0

      at : (k : ℕ) (y : Option B) → k < p.len → IfSome (p.at k) (λ x. Called g f (x, tt) y f) → y ≡ val k
      at k y h called = read (p.at k) ((range_runs p p.seen).3 k h) ((range_runs p p.seen).2 k) called
        where
          read : (o : Option ℕ) → option_map (λ x. x) o ≡ Some (p.from.start + k) → IfSome o (λ x. (x ≡ p.from.start + k) × (x < p.from.end)) → IfSome o (λ x. Called g f (x, tt) y f) → y ≡ val k
          read None e _ _ = absurd (grind arith)
          read (Some x) _ is called = (acts x y f called).1 ∙ ap val (omega (arith, is.0, start))

      some : (k : ℕ) (y : Option B) → IsSomeAnd (p.at k) (λ x. Called g f (x, tt) y f) → IfSome (p.at k) (λ x. Called g f (x, tt) y f)
      some k y = go' (p.at k)
        where
          go' : (o : Option ℕ) → IsSomeAnd o (λ x. Called g f (x, tt) y f) → IfSome o (λ x. Called g f (x, tt) y f)
          go' (Some x) c = c
          go' None c = absurd c

      go : (o : Option B) → MatchOption o (IsTrue p.whole × AllItemsGive p g f None) (λ y. (i : ℕ) × (i < p.len) × (p.len ≡ i + 1) × IsFirstToGive p g f (Some y) None i)
          → MatchOption o ((k : ℕ) → k < n → None ≡ val k) (λ y. (i : ℕ) × (i < n) × (Some y ≡ val i) × ((k : ℕ) → k < i → None ≡ val k))
      go None none = λ k h. at k None (omega (arith, (range_runs p p.seen).1 none.0, start, end)) (none.1 same k)
      go (Some y) one =
          let i = one.0 in
          let first = one.3 same in (
            i,
            omega (arith, one.1, (range_runs p p.seen).0, start, end),
            at i (Some y) one.1 (some i (Some y) first.0),
            λ k h. at k None (omega (arith, one.1)) (some k None (first.1 k h)),
          )

-- one number more
range_more : (a n : ℕ) → range_with_len a (suc n) ≡ range_with_len a n ++ (a + n) ∷ []
range_more a zero = ap (λ k. k ∷ []) (omega arith)
range_more a (suc n) = ap (λ xs. a ∷ xs) (range_more (a + 1) n ∙ ap (λ k. range_with_len (a + 1) n ++ k ∷ []) (omega arith))

-- what a fold over the mapped numbers that pass gives
module _ {A B : Type 0} (op : A → B → A) (init : A) (val : ℕ → B) (test : ℕ → Bool) where
  abbrev pub chain : ℕ → A
  chain n = fold op init (map val (filter test (range_with_len 0 n)))

  -- one number more
  chain_more : (n : ℕ) → chain (suc n) ≡ cond (test n) (op (chain n) (val n)) (chain n)
  chain_more n =
      let xs = range_with_len 0 n in
      ap (λ ys. fold op init (map val (filter test ys))) (range_more 0 n ∙ ap (λ k. xs ++ k ∷ []) (omega arith))
      ∙ ap (λ ys. fold op init (map val ys)) (filter-append test xs (n ∷ []))
      ∙ ap (fold op init) (map-append val (filter test xs) (filter test (n ∷ [])))
      ∙ fold-append op init (map val (filter test xs)) (map val (filter test (n ∷ [])))
      ∙ last (test n)
    where
      last : (b : Bool) → fold op (chain n) (map val (cond b (n ∷ []) [])) ≡ cond b (op (chain n) (val n)) (chain n)
      last true = refl
      last false = refl

-- the least, as a chain
pub least_from : (S : ℕ → Bool) (f : ℕ → ℕ) (n : ℕ) → chain (λ o x. Some (lesser o x)) None f S n ≡ least_over S f n
unfolding least_over
least_from S f zero = refl
least_from S f (suc n) = chain_more (λ o x. Some (lesser o x)) None f S n ∙ ap (λ o. cond (S n) (Some (lesser o (f n))) o) (least_from S f n)

-- the lesser of two is at most what both are at most
lesser_small : (most x : ℕ) (o : Option ℕ) → AtMost most o → x ≤ most → lesser o x ≤ most
lesser_small most x None h l = l
lesser_small most x (Some y) h l = omega arith

-- the least is at most what each is at most
pub fold_small : (most : ℕ) (f : ℕ → ℕ) (xs : List ℕ) (o : Option ℕ) → ((j : ℕ) → f j ≤ most) → AtMost most o → AtMost most (fold (λ o x. Some (lesser o x)) o (map f xs))
fold_small most f [] o small h = h
fold_small most f (x ∷ xs) o small h = fold_small most f xs (Some (lesser o (f x))) small (lesser_small most (f x) o h (small x))

-- the greatest, as a chain
pub greatest_from : (S : ℕ → Bool) (f : ℕ → ℕ) (n : ℕ) → chain max 0 f S n ≡ greatest S f n
unfolding greatest
greatest_from S f zero = refl
greatest_from S f (suc n) = chain_more max 0 f S n ∙ ap (λ m. cond (S n) (max m (f n)) m) (greatest_from S f n)
