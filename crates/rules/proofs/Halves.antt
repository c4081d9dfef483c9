-- A half round: each kind of overload means that there is no possible plan, and one that goes on keeps every one. Assumes nothing.
use Rattle.std.proofs.Common.{◌≡◌, ℕ, ◌+◌, ◌<◌, ◌≤◌, Bool, true, ltb, ◌≢◌, Some, None, Option, sym, refl, subst, ⊎_elim, arith}
use Rattle.std.proofs.lemmas.Bool.{ltb-true, ltb-false, eq-eqb, or_right}
use Rattle.changeover.specs.Rows.{Lawful}
use Rattle.rules.specs.declared.outcome.Overload.{Overload}
use Rattle.rules.specs.declared.outcome.Overload.TheVariants.{NeitherFirst, TooMuch, TooShort}
use Rattle.rules.specs.Faces.{Face, with_windows}
use Rattle.rules.specs.Places.{first_such}
use Rattle.rules.specs.Rules.{first_in, clash, found, clashing, late_before, up_to, too_much, overloading, new_early, new_late, shortened, overloaded, goes_on, unless, half_round}
use Rattle.rules.specs.Theorems.{Fine, Possible}
use Rattle.rules.proofs.Searches.{such_passes, such_none, first_is}
use Rattle.rules.proofs.Turns.{of_job_is}
use Rattle.rules.proofs.Keeping.{up_to_late, precedes_can, finishes_after, pairs_keep, detectable_precedences_keep, not_last_keeps, edge_finding_keeps}

-- a job is one of those up to it
up_to_self : (F : Face) (j : ℕ) → up_to F j j ≡ true
unfolding up_to
up_to_self F j = or_right (late_before F j j) _ (eq-eqb j j refl)

-- where no test finds anything, a half round goes on
which : (x y z : Option Overload) (G : Face) (u : Overload) →
    ((v : Overload) → x ≡ Some v → ⊥) → ((v : Overload) → y ≡ Some v → ⊥) → ((v : Overload) → z ≡ Some v → ⊥) →
    unless x (unless y (unless z (goes_on G))) ≡ overloaded u → ⊥
which (Some x) y z G u hx hy hz e = hx x refl
which None (Some y) z G u hx hy hz e = hy y refl
which None None (Some z) G u hx hy hz e = hz z refl
which None None None G u hx hy hz e = grind arith

-- what a half round that goes on found
record WentOn (F : Face) (b : ℕ → ℕ) (G : Face) : Type 0 where
  pub short_none : shortened F b ≡ None
  pub windows : with_windows F (new_early F b) (new_late F b) ≡ G

module _ (F : Face) (b : ℕ → ℕ) where
  -- it got past all three tests
  went_on : (x y z : Option Overload) (G : Face) → z ≡ shortened F b →
      unless x (unless y (unless z (goes_on (with_windows F (new_early F b) (new_late F b))))) ≡ goes_on G → WentOn F b G
  went_on (Some x) y z G s e = absurd (grind arith)
  went_on None (Some y) z G s e = absurd (grind arith)
  went_on None None (Some z) G s e = absurd (grind arith)
  went_on None None None G s e = record { short_none = sym s; windows = cc }

  went : (G : Face) → half_round F b ≡ goes_on G → WentOn F b G
  unfolding half_round
  went G e = went_on (clashing F) (overloading F b) (shortened F b) G refl e

  -- no job of a half round that goes on is left too short a window
  long_enough : shortened F b ≡ None → (i : ℕ) → i < F.n → new_early F b i + F.duration i ≤ new_late F b i
  unfolding shortened
  long_enough e i h =
      let test : ℕ → Bool = λ k. ltb (new_late F b k) (new_early F b k + F.duration k) in
      let none : first_such test F.n ≡ None = go (first_such test F.n) e in
      ltb-false (new_late F b i) (new_early F b i + F.duration i) (such_none test F.n none i h)
    where
      go : (o : Option ℕ) → ◌≡◌ {A = Option Overload} (elim o [ None ↦ None | Some i ↦ Some (TooShort i) ]) None → o ≡ None
      go None q = refl
      go (Some k) q = absurd (grind arith)

  -- windows only shrink
  late_shrinks : (i : ℕ) → new_late F b i ≤ F.late i
  unfolding new_late
  late_shrinks i = omega arith

  module _ (fine : Fine F) where
    -- the limits are kept
    pub half_fine : (G : Face) → half_round F b ≡ goes_on G → Fine G
    half_fine G e =
        let w = went G e in
        subst Fine w.windows
        (record {
          few = fine.few;
          lasts = fine.lasts;
          wide = λ j h. omega (arith, of_job_is F.n (new_early F b) j h, of_job_is F.n (new_late F b) j h, long_enough w.short_none j h);
          closes = λ j h. omega (arith, of_job_is F.n (new_late F b) j h, late_shrinks j, fine.closes j h);
        })

    module _ (law : Lawful F.n F.gap b) (start : ℕ → ℕ) (possible : Possible F start) where
      -- rule 7: the new windows keep the plan
      early_keeps : (i : ℕ) → i < F.n → new_early F b i ≤ start i
      unfolding new_early
      early_keeps i h =
          omega (
            arith,
            possible.0.opens i h,
            pairs_keep F b fine law start possible i h,
            detectable_precedences_keep F b fine law start possible i h,
            edge_finding_keeps F b fine law start possible i h,
          )

      late_keeps : (i : ℕ) → i < F.n → start i + F.duration i ≤ new_late F b i
      unfolding new_late
      late_keeps i h = omega (arith, possible.0.closes i h, not_last_keeps F b fine law start possible i h)

      -- so what goes on keeps it
      pub half_keeps : (G : Face) → half_round F b ≡ goes_on G → Possible G start
      half_keeps G e =
          let w = went G e in
          subst (λ H. Possible H start) w.windows (
            record {
              opens = λ j h. omega (arith, of_job_is F.n (new_early F b) j h, early_keeps j h);
              closes = λ j h. omega (arith, of_job_is F.n (new_late F b) j h, late_keeps j h);
            },
            possible.1,
          )

      -- of two jobs one can precede the other
      no_clash : (i j : ℕ) → i < F.n → j < F.n → clash F i j ≡ true → ⊥
      unfolding clash
      no_clash i j hi hj c =
          let d : i ≢ j = λ e. grind arith in
          ⊎_elim (λ p. let r = precedes_can F b fine law start possible i j hi hj p in grind arith)
          (λ p. let r = precedes_can F b fine law start possible j i hj hi p in grind arith)
          (possible.1 i j hi hj d)

      -- the first test finds nothing
      none_clashes : (x : Overload) → clashing F ≡ Some x → ⊥
      unfolding clashing
      none_clashes x e = outer (first_such (λ i. found (first_such (clash F i) F.n)) F.n) refl e
        where
          inner : (i : ℕ) → i < F.n → (o : Option ℕ) → first_such (clash F i) F.n ≡ o → elim o [ None ↦ None | Some j ↦ Some (NeitherFirst i j) ] ≡ Some x → ⊥
          inner i hi None r q = grind arith
          inner i hi (Some j) r q = let w = such_passes (clash F i) F.n j r in no_clash i j hi w.0 w.1

          outer : (o : Option ℕ) → first_such (λ i. found (first_such (clash F i) F.n)) F.n ≡ o →
              elim o [
                | None ↦ None
                | Some i ↦ elim (first_such (clash F i) F.n) [ None ↦ None | Some j ↦ Some (NeitherFirst i j) ]
              ] ≡ Some x → ⊥
          outer None r q = grind arith
          outer (Some i) r q = inner i (such_passes (λ i. found (first_such (clash F i) F.n)) F.n i r).0 (first_such (clash F i) F.n) refl q

      -- all up to j can finish by its late end
      no_excess : (j : ℕ) → j < F.n → too_much F b j ≡ true → ⊥
      unfolding too_much
      no_excess j hj t =
          let k = finishes_after F b fine law start possible (up_to F j) j (F.late j) hj (up_to_self F j) t in
          omega (arith, k.3, possible.0.closes k.0 k.1, up_to_late F j k.0 k.2)

      -- the second test finds nothing
      none_overloads : (x : Overload) → overloading F b ≡ Some x → ⊥
      unfolding overloading
      none_overloads x e = go (first_in (late_before F) (too_much F b) F.n) refl e
        where
          go : (o : Option ℕ) → first_in (late_before F) (too_much F b) F.n ≡ o → elim o [ None ↦ None | Some j ↦ Some (TooMuch j) ] ≡ Some x → ⊥
          go None r q = grind arith
          go (Some j) r q = let w = first_is (late_before F) (too_much F b) F.n j r in no_excess j w.0 w.1

      -- the third test finds nothing
      none_too_short : (x : Overload) → shortened F b ≡ Some x → ⊥
      unfolding shortened
      none_too_short x e = go (first_such (λ i. ltb (new_late F b i) (new_early F b i + F.duration i)) F.n) refl e
        where
          go : (o : Option ℕ) → first_such (λ i. ltb (new_late F b i) (new_early F b i + F.duration i)) F.n ≡ o → elim o [ None ↦ None | Some i ↦ Some (TooShort i) ] ≡ Some x → ⊥
          go None r q = grind arith
          go (Some i) r q =
              let w = such_passes (λ i. ltb (new_late F b i) (new_early F b i + F.duration i)) F.n i r in
              omega (arith, ltb-true (new_late F b i) (new_early F b i + F.duration i) w.1, early_keeps i w.0, late_keeps i w.0)

      -- so a half round does not end overloaded
      pub overload_means_none : (x : Overload) → half_round F b ≡ overloaded x → ⊥
      unfolding half_round
      overload_means_none x e =
          which (clashing F) (overloading F b) (shortened F b) (with_windows F (new_early F b) (new_late F b)) x none_clashes none_overloads none_too_short e
