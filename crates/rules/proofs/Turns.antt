-- Turning a face keeps limits, plans, separation and the law. Assumes nothing.
use Rattle.std.proofs.Common.{◌≡◌, ℕ, ◌+◌, ◌-◌, ◌<◌, ltb, ◌≢◌, List, [], ◌∷◌, ◌++◌, length, sym, refl, ◌∙◌, inl, inr, ⊎_elim, arith, length-append}
use Rattle.std.specs.List.{AllByRecursion as All}
use Rattle.std.proofs.ByRecursion.{All-push}
use Rattle.std.proofs.lemmas.Bool.{cond-true, lt-ltb}
use Rattle.changeover.specs.Rows.{Lawful, gaps_along}
use Rattle.rules.specs.Faces.{Face, horizon, of_job, turned}
use Rattle.rules.specs.Plans.{Inside, Separated}
use Rattle.rules.specs.Theorems.{Fine, Possible, turned_plan, TurningAlwaysHolds}
use Rattle.rules.proofs.Lines.{Distinct, within_all, different_all, law_of}

-- what a job has
pub of_job_is : (n : ℕ) (x : ℕ → ℕ) (j : ℕ) → j < n → of_job n x j ≡ x j
of_job_is n x j h = cond-true (ltb j n) (x j) 0 (lt-ltb j n h)

-- the list from its end
abbrev back : List ℕ → List ℕ
back [] = []
back (x ∷ xs) = back xs ++ (x ∷ [])

-- it has what the list has
all_back : (P : ℕ → Type 0) (xs : List ℕ) → All P xs → All P (back xs)
all_back P [] h = tt
all_back P (x ∷ xs) h = All-push P (back xs) x (all_back P xs h.1) h.0

length_back : (xs : List ℕ) → length (back xs) ≡ length xs
length_back [] = refl
length_back (x ∷ xs) = omega (arith, length-append (back xs) (x ∷ []), length_back xs)

distinct_push : (xs : List ℕ) (y : ℕ) → Distinct xs → All (λ x. y ≢ x) xs → Distinct (xs ++ (y ∷ []))
distinct_push [] y d h = (tt, tt)
distinct_push (x ∷ xs) y d h = (All-push (λ z. x ≢ z) xs y d.0 (λ e. h.0 (sym e)), distinct_push xs y d.1 h.1)

distinct_back : (xs : List ℕ) → Distinct xs → Distinct (back xs)
distinct_back [] d = tt
distinct_back (x ∷ xs) d = distinct_push (back xs) x (distinct_back xs d.1) (all_back (λ y. x ≢ y) xs d.0)

-- one job more at the end is one gap more
gaps_push : (gap : ℕ → ℕ → ℕ) (ys : List ℕ) (y x : ℕ) → gaps_along gap ((ys ++ (y ∷ [])) ++ (x ∷ [])) ≡ gaps_along gap (ys ++ (y ∷ [])) + gap y x
gaps_push gap [] y x = omega arith
gaps_push gap (z ∷ []) y x = omega arith
gaps_push gap (z ∷ w ∷ zs) y x = omega (arith, gaps_push gap (w ∷ zs) y x)

-- a row from its end has the same gaps, each the other way round
gaps_back : (gap : ℕ → ℕ → ℕ) (xs : List ℕ) → gaps_along gap (back xs) ≡ gaps_along (λ i j. gap j i) xs
gaps_back gap [] = refl
gaps_back gap (x ∷ []) = refl
gaps_back gap (x ∷ y ∷ ys) = omega (arith, gaps_push gap (back ys) y x, gaps_back gap (y ∷ ys))

-- the law holds the other way round
lawful_back : (n : ℕ) (gap : ℕ → ℕ → ℕ) (b : ℕ → ℕ) → Lawful n gap b → Lawful n (λ i j. gap j i) b
lawful_back n gap b law = record {
  past = law.past;
  under = λ e row r.
      let u = law_of n gap b law e (back row) (length_back row ∙ omega (arith, r.long)) (all_back (λ j. j < n) row (within_all n row r.within))
      (distinct_back row (different_all row r.different)) in
      omega (arith, gaps_back gap row);
}

module _ (F : Face) (fine : Fine F) where
  -- the turned windows of a job
  opens_at : (j : ℕ) → j < F.n → (turned F).early j ≡ horizon - F.late j
  unfolding turned
  opens_at j h = of_job_is F.n (λ k. horizon - F.late k) j h

  closes_at : (j : ℕ) → j < F.n → (turned F).late j ≡ horizon - F.early j
  unfolding turned
  closes_at j h = of_job_is F.n (λ k. horizon - F.early k) j h

  -- limits
  fine_turned : Fine (turned F)
  unfolding turned
  fine_turned = record {
    few = fine.few;
    lasts = fine.lasts;
    wide = λ j h. omega (arith, opens_at j h, closes_at j h, fine.wide j h, fine.closes j h);
    closes = λ j h. omega (arith, closes_at j h);
  }

  -- plans inside the windows
  inside_turned : (start : ℕ → ℕ) → Inside F start → Inside (turned F) (turned_plan F start)
  unfolding turned
  inside_turned start inside = record {
    opens = λ j h. omega (arith, opens_at j h, inside.closes j h);
    closes = λ j h. omega (arith, closes_at j h, inside.opens j h, inside.closes j h, fine.closes j h);
  }

  -- and their separation
  separated_turned : (start : ℕ → ℕ) → Possible F start → Separated (turned F) (turned_plan F start)
  unfolding turned
  separated_turned start possible i j hi hj d =
      let inside = possible.0 in
      let ends_i = inside.closes i hi in
      let ends_j = inside.closes j hj in
      let top_i = fine.closes i hi in
      let top_j = fine.closes j hj in
      ⊎_elim (λ p. inr (omega arith)) (λ p. inl (omega arith)) (possible.1 i j hi hj d)

pub turning_holds : TurningAlwaysHolds
unfolding turned
turning_holds F fine = record {
  fine = fine_turned F fine;
  plan = λ start possible. (inside_turned F fine start possible.0, separated_turned F fine start possible);
  lawful = λ b law. lawful_back F.n F.gap b law;
}
