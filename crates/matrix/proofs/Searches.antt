-- A search through 1, 2, .. n for the first number at which something is given. Assumes nothing.
use Rattle.std.proofs.Common.{◌≡◌, ℕ, zero, suc, ◌+◌, ◌-◌, ◌<◌, ◌≤◌, Some, None, Option, sym, refl, ap, ◌∙◌, subst, ⊎_elim, arith}
use Rattle.std.proofs.lemmas.Bool.{cases_eq}
use Rattle.std.specs.Fn.{Called}
use Rattle.std.specs.Bool.{IsTrue}
use Rattle.std.specs.Iterator.{ActsAs}
use Rattle.std.specs.Iterator.Runs.{Run, SomeRun, CallKeepsClosure, AllItemsGive, IsFirstToGive}
use Rattle.std.specs.Option.{MatchOption, IfSome, IsSomeAnd, option_map}
use Rattle.std.specs.declared.ops.Range.{Range}
use Rattle.std.proofs.iter.Yields.{nat_range_steps}
use Rattle.std.proofs.iter.runs.Sources.{range_runs}
use denote.Param.Members.{Mut}
use Rattle.matrix.specs.Matrix.{first, or_else}

module _ {X : Type 0} (f : ℕ → Option X) where
  -- a turn that finds nothing
  pub first_more : (k : ℕ) → 1 ≤ k → first f (k - 1) ≡ None → f k ≡ None → first f (k + 1 - 1) ≡ None
  first_more k one before here =
      let back : k + 1 - 1 ≡ suc (k - 1) = omega arith in
      let same : suc (k - 1) ≡ k = omega arith in
      rw (back, before, same) here

  -- the loop's end
  pub first_all : (k n : ℕ) → n < k → k ≤ n + 1 → first f (k - 1) ≡ None → first f n ≡ None
  first_all k n lt le none = let same : k - 1 ≡ n = omega arith in rw (← same) none

  first_stays : (k : ℕ) (x : X) → first f k ≡ None → f (suc k) ≡ Some x → (n : ℕ) → k < n → first f n ≡ Some x
  first_stays k x none here zero lt = absurd (omega arith)
  first_stays k x none here (suc n) lt =
      ⊎_elim
      (λ e. rw (← e, none, here))
      (λ ne. let lt : k < n = omega arith in rw (first_stays k x none here n lt))
      (cases_eq k n)

  -- a turn that finds x
  pub first_found : (k n : ℕ) (x : X) → 1 ≤ k → k ≤ n → first f (k - 1) ≡ None → f k ≡ Some x → first f n ≡ Some x
  first_found k n x one le none here =
      let same : k ≡ suc (k - 1) = omega arith in
      first_stays (k - 1) x none (ap f (sym same) ∙ here) n (omega arith)

  -- what is known of a search that gave o
  abbrev Seen : ℕ → Option X → Type 0
  Seen n None = (k : ℕ) → 1 ≤ k → k ≤ n → f k ≡ None
  Seen n (Some x) = (i : ℕ) × (1 ≤ i) × (i ≤ n) × (f i ≡ Some x) × ((k : ℕ) → 1 ≤ k → k < i → f k ≡ None)

  seen_more : (n : ℕ) (o p : Option X) → f (suc n) ≡ p → Seen n o → Seen (suc n) (or_else o p)
  seen_more n (Some x) p here s = (s.0, s.1, omega (arith, s.2), s.3, s.4)
  seen_more n None (Some x) here s = (suc n, omega arith, omega arith, here, λ k one lt. s k one (omega arith))
  seen_more n None None here s = λ k one le. ⊎_elim (λ e. ap f e ∙ here) (λ ne. s k one (omega arith)) (cases_eq k (suc n))

  seen : (n : ℕ) → Seen n (first f n)
  seen zero = λ k one le. absurd (omega arith)
  seen (suc n) = seen_more n (first f n) (f (suc n)) refl (seen n)

  pub none_before : (n : ℕ) → first f n ≡ None → (k : ℕ) → 1 ≤ k → k ≤ n → f k ≡ None
  none_before n e = subst (Seen n) e (seen n)

  pub found_first : (n : ℕ) (x : X) → first f n ≡ Some x → (i : ℕ) × (1 ≤ i) × (i ≤ n) × (f i ≡ Some x) × ((k : ℕ) → 1 ≤ k → k < i → f k ≡ None)
  found_first n x e = subst (Seen n) e (seen n)

  -- a search that finds nothing
  none_below : (n : ℕ) → ((k : ℕ) → 1 ≤ k → k ≤ n → f k ≡ None) → first f n ≡ None
  none_below zero h = refl
  none_below (suc n) h = rw (none_below n (λ k one le. h k one (omega arith)), h (suc n) (omega arith) (omega arith)) refl

-- what is said of an item, said of the number that it is
item_is : (o : Option ℕ) (n : ℕ) (P : ℕ → Type 0) → option_map (λ y. y) o ≡ Some n → IfSome o P → P n
item_is None n P e h = absurd (let z : ◌≡◌ {A = ℕ} 0 1 = cc e in omega arith)
item_is (Some x) n P e h = let same : x ≡ n = cc e in subst P same h

given : (o : Option ℕ) (P : ℕ → Type 0) → IsSomeAnd o P → IfSome o P
given None P h = tt
given (Some x) P h = h

-- what `find_map` over 1, 2, .. m gives, where a call leaves the closure as it was
module _ {X F : Type 0} {g : Mut F (ℕ × Unit {0}) (Option X)} (c : F) (result : Option X) (val : ℕ → Option X) (m : ℕ) (acts : ActsAs g c val) where
  module _ (p : Run nat_range_steps) (from : p.from ≡ record { start = 1; end = m + 1 }) where
    -- the item at place k is k + 1
    called : (r : Option X) (k : ℕ) → k < p.len → IfSome (p.at k) (λ x. Called g c (x, tt) r c) → val (suc k) ≡ r
    called r k lt h =
        let start = ap (λ q. q.start) from in
        let here : p.from.start + k ≡ suc k = omega arith in
        let read = (range_runs p p.seen).3 k lt ∙ ap Some here in
        sym (acts (suc k) r c (item_is (p.at k) (suc k) (λ x. Called g c (x, tt) r c) read h)).1

    keeps : CallKeepsClosure g c
    keeps a r q h = (acts a.0 r q h).0

    go : (o : Option X) → MatchOption o (IsTrue p.whole × AllItemsGive p g c None) (λ y. (i : ℕ) × (i < p.len) × (p.len ≡ i + 1) × IsFirstToGive p g c (Some y) None i) → o ≡ first val m
    go None h =
        let long = (range_runs p p.seen).1 h.0 in
        let start = ap (λ q. q.start) from in
        let end = ap (λ q. q.end) from in
        let none : (k : ℕ) → 1 ≤ k → k ≤ m → val k ≡ None = λ k one le. let back : suc (k - 1) ≡ k = omega arith in ap val (sym back) ∙ called None (k - 1) (omega arith) (h.1 keeps (k - 1)) in
        sym (none_below val m none)
    go (Some y) (i, lt, long, which) =
        let few = (range_runs p p.seen).0 in
        let start = ap (λ q. q.start) from in
        let end = ap (λ q. q.end) from in
        let none : (k : ℕ) → 1 ≤ k → k ≤ i → val k ≡ None = λ k one le. let back : suc (k - 1) ≡ k = omega arith in ap val (sym back) ∙ called None (k - 1) (omega arith) (given (p.at (k - 1)) _ ((which keeps).1 (k - 1) (omega arith))) in
        sym (first_stays val i y (none_below val i none) (called (Some y) i lt (given (p.at i) _ (which keeps).0)) m (omega arith))

  pub searched : {s : Range ℕ} → SomeRun nat_range_steps s (λ p. MatchOption result (IsTrue p.whole × AllItemsGive p g c None) (λ y. (i : ℕ) × (i < p.len) × (p.len ≡ i + 1) × IsFirstToGive p g c (Some y) None i)) → s ≡ record { start = 1; end = m + 1 } → result ≡ first val m
  searched run is = go run.0 (run.1 ∙ is) result run.2
