-- What is found first in an order, and the jobs up to one in late order. Assumes nothing.
use Rattle.std.proofs.Common.{◌≡◌, ℕ, zero, suc, ◌+◌, ◌<◌, Bool, true, false, cond, eqb, ltb, ◌≢◌, Some, None, Option, sym, refl, ap, ◌∙◌, subst, ⊎_elim, not-suc-le-zero, arith}
use Rattle.std.proofs.lemmas.Bool.{cases_eq, cases_lt, cases_Bool, both_ways, cond-true, cond-false, cond_both, lt-ltb, le-ltb, ne_eqb, eq-eqb, or_left, or_right, or_from}
use Rattle.rules.specs.declared.outcome.Overload.{Overload}
use Rattle.rules.specs.declared.outcome.Overload.TheVariants.{TooMuch}
use Rattle.rules.specs.Faces.{Face}
use Rattle.rules.specs.Places.{before_by, E}
use Rattle.rules.specs.Rules.{above, first_in, up_to, too_much, overloading, with_job}
use Rattle.rules.proofs.Searches.{first_is}
use Rattle.face.specs.Orders.{rank, HasRank, firsts}
use Rattle.face.proofs.Ranks.{rank_lt, rank_apart, rank_before, rank_not_before, before_one}
use Rattle.face.proofs.Whites.{Same, E_same, with_others, with_here}

-- a set of no jobs has no first one
pub first_none : (before : ℕ → ℕ → Bool) (S : ℕ → Bool) (m : ℕ) → ((j : ℕ) → j < m → S j ≡ false) → first_in before S m ≡ None
unfolding first_in
first_none before S zero out = refl
first_none before S (suc m) out = cond-false (S m) _ _ (out m (omega arith)) ∙ first_none before S m (λ j h. out j (omega arith))

-- where nothing is found, the set has no jobs
none_first : (before : ℕ → ℕ → Bool) (S : ℕ → Bool) (m : ℕ) → first_in before S m ≡ None → (j : ℕ) → j < m → S j ≡ false
unfolding first_in
none_first before S zero e j h = absurd (not-suc-le-zero h)
none_first before S (suc m) e j h =
    ⊎_elim
    (λ t. absurd (some (first_in before S m) (sym (cond-true (S m) _ _ t) ∙ e)))
    (λ f. ⊎_elim (λ q. ap S q ∙ f) (λ q. none_first before S m (sym (cond-false (S m) _ _ f) ∙ e) j (omega arith)) (cases_eq j m))
    (cases_Bool (S m))
  where
    some : (o : Option ℕ) → ◌≡◌ {A = Option ℕ} (elim o [ Some i ↦ cond (before m i) (Some m) (Some i) | None ↦ Some m ]) None → ⊥
    some None q = let z : ◌≡◌ {A = ℕ} 0 1 = cc in omega arith
    some (Some i) q = cond_both (before m i) (Some m) (Some i) (λ (o : Option ℕ). o ≡ None → ⊥) (λ _ r. let z : ◌≡◌ {A = ℕ} 0 1 = cc in omega arith) (λ _ r. let z : ◌≡◌ {A = ℕ} 0 1 = cc in omega arith) q

-- a job of the set that comes before each other one is the first
first_found : (before : ℕ → ℕ → Bool) (S : ℕ → Bool) (j m : ℕ) → j < m → S j ≡ true → ((k : ℕ) → k < m → S k ≡ true → k ≢ j → (before j k ≡ true) × (before k j ≡ false)) → first_in before S m ≡ Some j
unfolding first_in
first_found before S j zero h t least = absurd (not-suc-le-zero h)
first_found before S j (suc m) h t least =
    ⊎_elim
    (λ e. cond-true (S m) _ _ (ap S (sym e) ∙ t) ∙ last e (first_in before S m) refl)
    (λ d.
    let r = first_found before S j m (omega arith) t (λ k l. least k (omega arith)) in
    ⊎_elim
    (λ y.
    cond-true (S m) _ _ y
    ∙ ap (λ o. elim o [ Some i ↦ cond (before m i) (Some m) (Some i) | None ↦ Some m ]) r
    ∙ cond-false (before m j) (Some m) (Some j) (least m (omega arith) y (λ e. d (sym e))).1)
    (λ y. cond-false (S m) _ _ y ∙ r)
    (cases_Bool (S m)))
    (cases_eq j m)
  where
    last : j ≡ m → (o : Option ℕ) → first_in before S m ≡ o → elim (first_in before S m) [ Some i ↦ cond (before m i) (Some m) (Some i) | None ↦ Some m ] ≡ Some j
    last e None q = ap (λ o. elim o [ Some i ↦ cond (before m i) (Some m) (Some i) | None ↦ Some m ]) q ∙ ap Some (sym e)
    last e (Some x) q =
        let w = first_is before S m x q in
        let b : before m x ≡ true = ap (λ k. before k x) (sym e) ∙ (least x (omega (arith, w.0)) w.1 (λ i. omega (arith, w.0))).0 in
        ap (λ o. elim o [ Some i ↦ cond (before m i) (Some m) (Some i) | None ↦ Some m ]) q ∙ cond-true (before m x) (Some m) (Some x) b ∙ ap Some (sym e)

module _ (n : ℕ) (key : ℕ → ℕ) (S : ℕ → Bool) where
  -- the job of lowest rank is the first in the order of the key
  lowest_first : (j : ℕ) → j < n → S j ≡ true → ((k : ℕ) → k < n → rank n key k < rank n key j → S k ≡ false) → first_in (before_by key) S n ≡ Some j
  lowest_first j hj t out =
      first_found (before_by key) S j n hj t
      (λ k hk s d.
      let above : rank n key j < rank n key k =
      ⊎_elim (λ l. let f = out k hk l in absurd (both_ways (S k) f s)) (λ l. let a = rank_apart key n k j hk hj d in omega arith) (cases_lt (rank n key k) (rank n key j)) in
      (rank_before key n j k hj hk above, rank_not_before key n k j hk hj (omega arith)))

  -- and the one of greatest rank in the order turned round
  pub greatest_first : (j : ℕ) → j < n → S j ≡ true → ((k : ℕ) → k < n → rank n key j < rank n key k → S k ≡ false) → first_in (λ i k. before_by key k i) S n ≡ Some j
  greatest_first j hj t out =
      first_found (λ i k. before_by key k i) S j n hj t
      (λ k hk s d.
      let below : rank n key k < rank n key j =
      ⊎_elim (λ l. let f = out k hk l in absurd (both_ways (S k) f s)) (λ l. let a = rank_apart key n k j hk hj d in omega arith) (cases_lt (rank n key j) (rank n key k)) in
      (rank_before key n k j hk hj below, rank_not_before key n j k hj hk (omega arith)))

-- one job more of an order
pub firsts_with : (n : ℕ) (key : ℕ → ℕ) (j t : ℕ) → HasRank n key t j → Same n (with_job j (firsts n key t)) (firsts n key (t + 1))
firsts_with n key j t at k hk =
    ⊎_elim
    (λ e. lt-ltb (rank n key k) (t + 1) (omega (arith, ap (rank n key) e, at.1)) ∙ sym (ap (with_job j (firsts n key t)) e ∙ with_here j (firsts n key t)))
    (λ d. let a = rank_apart key n k j hk at.0 d in let o = with_others n j (firsts n key t) k hk d in shifted (rank n key k) t (λ e. a (e ∙ sym at.1)) ∙ sym o)
    (cases_eq k j)
  where
    shifted : (x y : ℕ) → x ≢ y → ltb x (y + 1) ≡ ltb x y
    shifted x y d = ⊎_elim (λ l. lt-ltb x (y + 1) (omega arith) ∙ sym (lt-ltb x y l)) (λ l. le-ltb x (y + 1) (omega arith) ∙ sym (le-ltb x y l)) (cases_lt x y)

-- the jobs up to one in late order are the first ones
pub up_to_firsts : (F : Face) (j t : ℕ) → HasRank F.n F.late t j → Same F.n (firsts F.n F.late (t + 1)) (up_to F j)
unfolding up_to
up_to_firsts F j t at k hk =
    let n = F.n in
    let key = F.late in
    ⊎_elim
    (λ e. or_right (before_by key k j) (eqb k j) (eq-eqb k j e) ∙ sym (lt-ltb (rank n key k) (t + 1) (omega (arith, ap (rank n key) e, at.1))))
    (λ d.
    ⊎_elim
    (λ a. or_left (before_by key k j) (eqb k j) a ∙ sym (lt-ltb (rank n key k) (t + 1) (omega (arith, rank_lt key n k j hk a, at.1))))
    (λ a.
    let l = rank_lt key n j k at.0 a in
    or_from (before_by key k j) (eqb k j) (rank_not_before key n k j hk at.0 (omega arith)) (ne_eqb k j d) ∙ sym (le-ltb (rank n key k) (t + 1) (omega (arith, at.1))))
    (before_one key k j d))
    (cases_eq k j)

-- what the tree of the first jobs tells of the last of them
pub too_much_is : (F : Face) (b : ℕ → ℕ) (j t : ℕ) (e : Option ℕ) (late : ℕ) → HasRank F.n F.late t j → e ≡ E F b (firsts F.n F.late (t + 1)) → late ≡ F.late j → above e late ≡ too_much F b j
unfolding too_much
too_much_is F b j t e late at is at_late =
    ap (above e) at_late ∙ ap (λ x. above x (F.late j)) (is ∙ sym (E_same F b (firsts F.n F.late (t + 1)) (up_to F j) (up_to_firsts F j t at)))

-- one job more has been looked at
pub seen_more : (n : ℕ) (key : ℕ → ℕ) (P : ℕ → Type 0) (j t : ℕ) → HasRank n key t j → ((k : ℕ) → k < n → rank n key k < t → P k) → P j → (k : ℕ) → k < n → rank n key k < t + 1 → P k
seen_more n key P j t at seen here k hk l =
    ⊎_elim (λ e. subst P (sym e) here) (λ d. let a = rank_apart key n k j hk at.0 d in seen k hk (omega (arith, at.1))) (cases_eq k j)

-- the answers
pub overloading_none : (F : Face) (b : ℕ → ℕ) → ((k : ℕ) → k < F.n → too_much F b k ≡ false) → None ≡ overloading F b
unfolding overloading
overloading_none F b out = sym (ap (λ o. elim o [ None ↦ None | Some j ↦ Some (TooMuch j) ]) (first_none (before_by F.late) (too_much F b) F.n out))

pub overloading_some : (F : Face) (b : ℕ → ℕ) (j t : ℕ) → HasRank F.n F.late t j → too_much F b j ≡ true → ((k : ℕ) → k < F.n → rank F.n F.late k < t → too_much F b k ≡ false) → Some (TooMuch j) ≡ overloading F b
unfolding overloading
overloading_some F b j t at y out =
    sym (ap (λ o. elim o [ None ↦ None | Some j ↦ Some (TooMuch j) ]) (lowest_first F.n F.late (too_much F b) j at.0 y (λ k hk l. out k hk (omega (arith, at.1)))))

-- where there is no overload, no job has too much
pub calm : (F : Face) (b : ℕ → ℕ) → overloading F b ≡ None → (j : ℕ) → j < F.n → too_much F b j ≡ false
unfolding overloading
calm F b e = none_first (before_by F.late) (too_much F b) F.n (none_from (first_in (before_by F.late) (too_much F b) F.n) e)
  where
    none_from : (o : Option ℕ) → ◌≡◌ {A = Option Overload} (elim o [ None ↦ None | Some j ↦ Some (TooMuch j) ]) None → o ≡ None
    none_from None q = refl
    none_from (Some j) q = let z : ◌≡◌ {A = ℕ} 0 1 = cc in absurd (omega arith)
