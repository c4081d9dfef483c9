-- Rules 3 to 6 keep every possible plan. Assumes nothing.
use Rattle.std.proofs.Common.{◌≡◌, ℕ, ◌+◌, ◌-◌, ◌<◌, ◌≤◌, Bool, true, not, ◌&&◌, eqb, ◌≢◌, Some, None, Option, refl, ap, ⊎_elim, arith}
use Rattle.std.proofs.lemmas.Bool.{cond_both, cases_eq, and_parts, or_left, or_cases, eq-eqb, eqb-true}
use Rattle.changeover.specs.Rows.{Lawful}
use Rattle.rules.specs.Faces.{Face, earliest_finish, latest_start}
use Rattle.rules.specs.Places.{E}
use Rattle.rules.specs.Rules.{above, or_zero, greatest, least_over, first_in, sum, after, can_precede, late_before, up_to, pair_early, detected, detected_early, rivals, not_last_late, with_job, tight, edge_early}
use Rattle.rules.specs.Plans.{Precedes}
use Rattle.rules.specs.Theorems.{Fine, Possible}
use Rattle.rules.proofs.Searches.{first_is, greatest_over, greatest_under, least_under, least_of}
use Rattle.rules.proofs.Bounds.{set_finishes}

-- a time above a limit is a time
above_time : (o : Option ℕ) (limit : ℕ) → above o limit ≡ true → (t : ℕ) × (o ≡ Some t) × (limit < t)
above_time None limit h = absurd (grind arith)
above_time (Some t) limit h = (t, refl, grind arith)

-- a sum's two parts
sum_parts : (x y : Option ℕ) (v : ℕ) → sum x y ≡ Some v → (t g : ℕ) × (x ≡ Some t) × (y ≡ Some g) × (v ≡ t + g)
sum_parts None y v e = absurd (grind arith)
sum_parts (Some t) None v e = absurd (grind arith)
sum_parts (Some t) (Some g) v e = (t, g, refl, refl, cc)

-- j and those before it in late order have to finish by its late end
pub up_to_late : (F : Face) (j k : ℕ) → up_to F j k ≡ true → F.late k ≤ F.late j
unfolding up_to
up_to_late F j k h = ⊎_elim (λ e. grind (arith, ap F.late e)) (λ d. grind arith) (cases_eq k j)

-- what comes after j in late order is none of them
up_to_apart : (F : Face) (i j k : ℕ) → late_before F j i ≡ true → up_to F j k ≡ true → i ≢ k
unfolding up_to
up_to_apart F i j k h u e = ⊎_elim (λ q. grind arith) (λ q. grind arith) (cases_eq k j)

-- a rival is another job
rival_apart : (F : Face) (i j : ℕ) → rivals F i j ≡ true → i ≢ j
unfolding rivals
rival_apart F i j t e = grind arith

module _ (F : Face) (b : ℕ → ℕ) (fine : Fine F) (law : Lawful F.n F.gap b) (start : ℕ → ℕ) (possible : Possible F start) where
  -- who precedes another can
  pub precedes_can : (i j : ℕ) → i < F.n → j < F.n → Precedes F start i j → can_precede F i j ≡ true
  unfolding can_precede
  precedes_can i j hi hj p = grind (arith, possible.0.opens i hi, possible.0.closes j hj)

  -- where E(S) is above a limit, a job of S finishes after it
  pub finishes_after : (S : ℕ → Bool) (a limit : ℕ) → a < F.n → S a ≡ true → above (E F b S) limit ≡ true → (k : ℕ) × (k < F.n) × (S k ≡ true) × (limit < start k + F.duration k)
  finishes_after S a limit ha sa h =
      let w = set_finishes F b fine law S a ha sa in
      let v = above_time (E F b S) limit h in
      let e : v.0 ≡ w.0 = cc (v.1, w.1) in
      let j = w.2 start possible in
      (j.0, j.1, j.2, omega (arith, j.3, v.2))

  -- a job of S that finishes at E(S) or later: if it precedes i, then i starts at or after E(S) and the least gap
  last_of : (S : ℕ → Bool) (i v : ℕ) → after F b S i ≡ Some v → (k : ℕ) × (k < F.n) × (S k ≡ true) × (Precedes F start k i → v ≤ start i)
  unfolding after
  last_of S i v e =
      let p = sum_parts (E F b S) (least_over S (λ j. F.gap j i) F.n) v e in
      let a = least_of S (λ j. F.gap j i) F.n p.1 p.3 in
      let w = set_finishes F b fine law S a.0 a.1 a.2 in
      let same : p.0 ≡ w.0 = cc (p.2, w.1) in
      let j = w.2 start possible in
      let u = least_under S (λ k. F.gap k i) F.n p.1 p.3 j.0 j.1 j.2 in
      (j.0, j.1, j.2, λ q. omega (arith, p.4, same, j.3, u))

  -- where all of S precede i, i starts at or after E(S) and the least gap
  after_keeps : (S : ℕ → Bool) (i : ℕ) → ((k : ℕ) → k < F.n → S k ≡ true → Precedes F start k i) → or_zero (after F b S i) ≤ start i
  after_keeps S i all = go (after F b S i) refl
    where
      go : (o : Option ℕ) → after F b S i ≡ o → or_zero o ≤ start i
      go None e = omega arith
      go (Some v) e = let k = last_of S i v e in k.3 (all k.0 k.1 k.2)

  -- rule 3
  pub pairs_keep : (i : ℕ) → i < F.n → pair_early F i ≤ start i
  unfolding pair_early
  pairs_keep i hi =
      greatest_under (λ j. not (eqb j i) && not (can_precede F i j)) (λ j. earliest_finish F j + F.gap j i) F.n (start i)
      (λ j hj t.
      let d : i ≢ j = λ e. grind arith in
      ⊎_elim (λ p. let c = precedes_can i j hi hj p in absurd (grind arith)) (λ p. omega (arith, possible.0.opens j hj)) (possible.1 i j hi hj d))

  -- a detected job precedes i
  detected_precedes : (i j : ℕ) → i < F.n → j < F.n → detected F i j ≡ true → Precedes F start j i
  unfolding detected
  detected_precedes i j hi hj t =
      let d : i ≢ j = λ e. grind arith in
      ⊎_elim (λ p. grind (arith, possible.0.closes j hj, possible.0.opens i hi)) (λ p. p) (possible.1 i j hi hj d)

  -- rule 4
  pub detectable_precedences_keep : (i : ℕ) → i < F.n → detected_early F b i ≤ start i
  unfolding detected_early
  detectable_precedences_keep i hi = after_keeps (detected F i) i (λ j hj t. detected_precedes i j hi hj t)

  -- rule 5
  pub not_last_keeps : (i : ℕ) → i < F.n → start i + F.duration i ≤ not_last_late F b i
  unfolding not_last_late
  not_last_keeps i hi =
      let top : ℕ = greatest (rivals F i) (λ j. latest_start F j - F.gap i j) F.n in
      let ends = possible.0.closes i hi in
      cond_both (above (after F b (rivals F i) i) (latest_start F i)) top (F.late i) (λ x. start i + F.duration i ≤ x)
      (λ t.
      let v = above_time (after F b (rivals F i) i) (latest_start F i) t in
      let k = last_of (rivals F i) i v.0 v.1 in
      let u = greatest_over (rivals F i) (λ j. latest_start F j - F.gap i j) F.n k.0 k.1 k.2 in
      ⊎_elim
      (λ p. omega (arith, u, possible.0.closes k.0 k.1))
      (λ p. absurd (omega (arith, k.3 p, v.2)))
      (possible.1 i k.0 hi k.1 (rival_apart F i k.0 k.2)))
      (λ _. ends)

  -- where Q(j) and i are tight, i finishes after j's late end
  tight_finishes : (i j : ℕ) → i < F.n → tight F b i j ≡ true → (late_before F j i ≡ true) × (F.late j < start i + F.duration i)
  unfolding tight with_job
  tight_finishes i j hi t =
      let p = and_parts (late_before F j i) (above (E F b (with_job i (up_to F j))) (F.late j)) t in
      let k = finishes_after (with_job i (up_to F j)) i (F.late j) hi (or_left (eqb i i) (up_to F j i) (eq-eqb i i refl)) p.1 in (
        p.0,
        ⊎_elim
            (λ e. let same = eqb-true k.0 i e in omega (arith, k.3, ap start same, ap F.duration same))
            (λ u. absurd (omega (arith, k.3, possible.0.closes k.0 k.1, up_to_late F j k.0 u)))
            (or_cases (eqb k.0 i) (up_to F j k.0) k.2),
      )

  -- so all of Q(j) precede i
  tight_precedes : (i j k : ℕ) → i < F.n → tight F b i j ≡ true → k < F.n → up_to F j k ≡ true → Precedes F start k i
  tight_precedes i j k hi t hk u =
      let f = tight_finishes i j hi t in
      ⊎_elim
      (λ p. absurd (omega (arith, f.1, possible.0.closes k hk, up_to_late F j k u)))
      (λ p. p)
      (possible.1 i k hi hk (up_to_apart F i j k f.0 u))

  -- rule 6
  pub edge_finding_keeps : (i : ℕ) → i < F.n → edge_early F b i ≤ start i
  unfolding edge_early
  edge_finding_keeps i hi = go (first_in (λ k j. late_before F j k) (tight F b i) F.n) refl
    where
      go : (o : Option ℕ) → first_in (λ k j. late_before F j k) (tight F b i) F.n ≡ o → elim o [ None ↦ 0 | Some j ↦ or_zero (after F b (up_to F j) i) ] ≤ start i
      go None e = omega arith
      go (Some j) e =
          let w = first_is (λ k j. late_before F j k) (tight F b i) F.n j e in
          after_keeps (up_to F j) i (λ k hk u. tight_precedes i j k hi w.1 hk u)
