-- Where no two jobs clash, any two can be run in one order or the other. Assumes nothing.
use Rattle.std.proofs.Common.{◌≡◌, ℕ, ◌<◌, true, false, ◌≢◌, ◌⊎◌, Some, None, Option, sym, refl, arith}
use Rattle.std.proofs.lemmas.Bool.{true≢false}
use Rattle.rules.specs.declared.outcome.Overload.{Overload}
use Rattle.rules.specs.declared.outcome.Overload.TheVariants.{NeitherFirst}
use Rattle.rules.specs.Faces.{Face}
use Rattle.rules.specs.Places.{first_such}
use Rattle.rules.specs.Rules.{can_precede, clash, found, clashing}
use Rattle.rules.proofs.Searches.{such_none, such_passes}

-- nothing was found
not_found : (o : Option ℕ) → found o ≡ false → o ≡ None
not_found None e = refl
not_found (Some j) e = absurd (let z : ◌≡◌ {A = ℕ} 0 1 = cc in omega arith)

-- a job that was found is told with the other
pair_told : (i : ℕ) (o : Option ℕ) → found o ≡ true → ◌≡◌ {A = Option Overload} (elim o [ None ↦ None | Some j ↦ Some (NeitherFirst i j) ]) None → ⊥
pair_told i None t e = true≢false (sym t)
pair_told i (Some j) t e = let z : ◌≡◌ {A = ℕ} 0 1 = cc in omega arith

module _ (F : Face) where
  -- where no pair is told, nothing was found that clashes with a job
  none_with : (o : Option ℕ) → first_such (λ i. found (first_such (clash F i) F.n)) F.n ≡ o →
      ◌≡◌ {A = Option Overload} (elim o [ None ↦ None | Some i ↦ elim (first_such (clash F i) F.n) [ None ↦ None | Some j ↦ Some (NeitherFirst i j) ] ]) None →
      (i : ℕ) → i < F.n → first_such (clash F i) F.n ≡ None
  none_with None is e i h = not_found (first_such (clash F i) F.n) (such_none (λ k. found (first_such (clash F k) F.n)) F.n is i h)
  none_with (Some k) is e i h =
      absurd (pair_told k (first_such (clash F k) F.n) (such_passes (λ i. found (first_such (clash F i) F.n)) F.n k is).1 e)

  -- two jobs of which none were found to clash
  no_clash : clashing F ≡ None → (i j : ℕ) → i < F.n → j < F.n → clash F i j ≡ false
  unfolding clashing
  no_clash e i j hi hj = such_none (clash F i) F.n (none_with (first_such (λ i. found (first_such (clash F i) F.n)) F.n) refl e i hi) j hj

  -- one of two different jobs can precede the other
  pub one_can_precede : clashing F ≡ None → (i j : ℕ) → i < F.n → j < F.n → i ≢ j → (can_precede F i j ≡ true) ⊎ (can_precede F j i ≡ true)
  unfolding clash
  one_can_precede e i j hi hj d =
      let there = no_clash e i j hi hj in
      let back = no_clash e j i hj hi in
      grind arith
