-- The jobs sorted by their starts: where the starts are separated, each is followed by one that it precedes. Assumes nothing.
use Rattle.std.proofs.Common.{ℕ, zero, suc, ◌<◌, ◌≤◌, ltb, ◌≢◌, List, [], ◌∷◌, sym, refl, inl, inr, ⊎_elim, not-suc-le-zero, arith}
use Rattle.std.proofs.lemmas.Bool.{cond_both, cases_eq, ltb-true, ltb-false}
use Rattle.changeover.specs.Rows.{Apart, Different, Within}
use Rattle.rules.specs.Faces.{Face}
use Rattle.rules.specs.Plans.{Member, Order, Chain, Precedes, Separated}
use Rattle.rules.proofs.Lines.{insert, all_insert, distinct_insert, all_within, within_all, all_apart, apart_all, all_different, different_all}

-- the jobs 0, 1, .. k - 1 sorted by their starts
abbrev pub sorted : (ℕ → ℕ) → ℕ → List ℕ
sorted start zero = []
sorted start (suc k) = insert start k (sorted start k)

-- each job of the longer list is one of the n
insert_within : (start : ℕ → ℕ) (n x : ℕ) (ys : List ℕ) → x < n → Within n ys → Within n (insert start x ys)
insert_within start n x ys hx h = all_within n _ (all_insert start (λ j. j < n) x ys hx (within_all n ys h))

-- z is none of the longer list if it is none of the list and not x
insert_apart : (start : ℕ → ℕ) (z x : ℕ) (ys : List ℕ) → z ≢ x → Apart z ys → Apart z (insert start x ys)
insert_apart start z x ys d h = all_apart z _ (all_insert start (λ y. z ≢ y) x ys d (apart_all z ys h))

-- no job stands twice in the longer list
insert_different : (start : ℕ → ℕ) (x : ℕ) (ys : List ℕ) → Apart x ys → Different ys → Different (insert start x ys)
insert_different start x ys a h = all_different _ (distinct_insert start x ys (apart_all x ys a) (different_all ys h))

-- x stands in the longer list
insert_there : (start : ℕ → ℕ) (x : ℕ) (ys : List ℕ) → Member x (insert start x ys)
insert_there start x [] = inl refl
insert_there start x (y ∷ ys) =
    cond_both (ltb (start x) (start y)) (x ∷ (y ∷ ys)) (y ∷ insert start x ys) (Member x) (λ _. inl refl) (λ _. inr (insert_there start x ys))

-- and so does what stood in the list
insert_keeps : (start : ℕ → ℕ) (z x : ℕ) (ys : List ℕ) → Member z ys → Member z (insert start x ys)
insert_keeps start z x [] m = absurd m
insert_keeps start z x (y ∷ ys) m =
    cond_both (ltb (start x) (start y)) (x ∷ (y ∷ ys)) (y ∷ insert start x ys) (Member z) (λ _. inr m)
    (λ _. ⊎_elim (λ e. inl e) (λ k. inr (insert_keeps start z x ys k)) m)

-- the sorted jobs are all below k
sorted_within : (start : ℕ → ℕ) (n k : ℕ) → k ≤ n → Within n (sorted start k)
sorted_within start n zero h = tt
sorted_within start n (suc k) h = insert_within start n k (sorted start k) (omega arith) (sorted_within start n k (omega arith))

-- a job that is not below k is none of them
sorted_apart : (start : ℕ → ℕ) (z k : ℕ) → k ≤ z → Apart z (sorted start k)
sorted_apart start z zero h = tt
sorted_apart start z (suc k) h = insert_apart start z k (sorted start k) (λ e. omega arith) (sorted_apart start z k (omega arith))

sorted_different : (start : ℕ → ℕ) (k : ℕ) → Different (sorted start k)
sorted_different start zero = tt
sorted_different start (suc k) = insert_different start k (sorted start k) (sorted_apart start k k (omega arith)) (sorted_different start k)

sorted_every : (start : ℕ → ℕ) (j k : ℕ) → j < k → Member j (sorted start k)
sorted_every start j zero h = absurd (not-suc-le-zero h)
sorted_every start j (suc k) h =
    ⊎_elim (λ e. rw e (insert_there start k (sorted start k))) (λ d. insert_keeps start j k (sorted start k) (sorted_every start j k (omega arith))) (cases_eq j k)

-- the sorted jobs are an order of the n jobs
pub sorted_order : (start : ℕ → ℕ) (n : ℕ) → Order n (sorted start n)
sorted_order start n = record {
  within = sorted_within start n n (omega arith);
  every = λ j h. sorted_every start j n h;
  once = sorted_different start n;
}

module _ (F : Face) (start : ℕ → ℕ) (lasts : (j : ℕ) → j < F.n → 1 ≤ F.duration j) (separated : Separated F start) where
  -- of two different jobs the one that starts no later precedes the other
  sooner_precedes : (x y : ℕ) → x < F.n → y < F.n → x ≢ y → start x ≤ start y → Precedes F start x y
  sooner_precedes x y hx hy d h = ⊎_elim (λ p. p) (λ p. absurd (omega (arith, lasts y hy))) (separated x y hx hy d)

  -- a chain below y stays one when a job that y precedes is inserted
  insert_below : (y x : ℕ) (ys : List ℕ) → x < F.n → Within F.n ys → Apart x ys → Precedes F start y x → Chain (Precedes F start) (y ∷ ys) → Chain (Precedes F start) (y ∷ insert start x ys)
  insert_below y x [] hx hs a p c = (p, tt)
  insert_below y x (z ∷ zs) hx hs a p c =
      cond_both (ltb (start x) (start z)) (x ∷ (z ∷ zs)) (z ∷ insert start x zs) (λ r. Chain (Precedes F start) (y ∷ r))
      (λ e. (p, (sooner_precedes x z hx hs.0 a.0 (omega (arith, ltb-true (start x) (start z) e)), c.1)))
      (λ e. (c.0, insert_below z x zs hx hs.1 a.1 (sooner_precedes z x hs.0 hx (λ q. a.0 (sym q)) (ltb-false (start x) (start z) e)) c.1))

  -- a chain stays one when another job is inserted
  insert_chain : (x : ℕ) (ys : List ℕ) → x < F.n → Within F.n ys → Apart x ys → Chain (Precedes F start) ys → Chain (Precedes F start) (insert start x ys)
  insert_chain x [] hx hs a c = tt
  insert_chain x (y ∷ ys) hx hs a c =
      cond_both (ltb (start x) (start y)) (x ∷ (y ∷ ys)) (y ∷ insert start x ys) (Chain (Precedes F start))
      (λ e. (sooner_precedes x y hx hs.0 a.0 (omega (arith, ltb-true (start x) (start y) e)), c))
      (λ e. insert_below y x ys hx hs.1 a.1 (sooner_precedes y x hs.0 hx (λ q. a.0 (sym q)) (ltb-false (start x) (start y) e)) c)

  -- sorted by start, each job is followed by one that it precedes
  pub sorted_chain : (k : ℕ) → k ≤ F.n → Chain (Precedes F start) (sorted start k)
  sorted_chain zero h = tt
  sorted_chain (suc k) h =
      insert_chain k (sorted start k) (omega arith) (sorted_within start F.n k (omega arith)) (sorted_apart start k k (omega arith)) (sorted_chain k (omega arith))
