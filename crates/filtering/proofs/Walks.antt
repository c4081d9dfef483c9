-- Edge finding from the end of late order, job by job. Assumes nothing.
use Rattle.std.proofs.Common.{◌≡◌, ℕ, ◌+◌, ◌<◌, ◌≤◌, Bool, true, false, ltb, ◌≢◌, List, length, get_or, set, Some, None, sym, ap, ◌∙◌, subst, inl, inr, ⊎_elim, arith}
use Rattle.std.proofs.lemmas.Bool.{cases_eq, cases_lt, cases_Bool, both_ways, and_left, and_right, and_from, le-ltb, lt-ltb}
use Rattle.rules.specs.Faces.{Face}
use Rattle.rules.specs.Places.{before_by}
use Rattle.rules.specs.Rules.{or_zero, after, up_to, with_job, tight, edge_early}
use Rattle.face.specs.Orders.{rank, HasRank, firsts}
use Rattle.face.specs.WhiteTrees.{but}
use Rattle.face.specs.GreyTrees.{Apart}
use Rattle.face.proofs.Ranks.{rank_apart, rank_before, rank_not_before}
use Rattle.face.proofs.Whites.{Same, but_others, but_here, with_others, with_here}
use Rattle.filtering.specs.Edges.{crowded, flagged, Moved}
use Rattle.filtering.proofs.Lates.{first_none, greatest_first, up_to_firsts}
use Rattle.filtering.proofs.Crowds.{flag_here, flag_other}

-- what is known of job i, its flag and its new early end, once the jobs from rank t on are done
pub record Walked (F : Face) (b : ℕ → ℕ) (t i : ℕ) (grey : Bool) (end : ℕ) : Type 0 where
  pub to_come : rank F.n F.late i < t → (grey ≡ false) × (end ≡ 0)
  pub still_grey : grey ≡ true → (t ≤ rank F.n F.late i) × (end ≡ 0) × ((j : ℕ) → j < F.n → t ≤ rank F.n F.late j → rank F.n F.late j < rank F.n F.late i → crowded F b i j ≡ false)
  pub resolved : grey ≡ false → t ≤ rank F.n F.late i → end ≡ edge_early F b i

module _ (F : Face) (b : ℕ → ℕ) where
  -- a job that does not come before i is not tight
  tight_not : (i k : ℕ) → i < F.n → k < F.n → (rank F.n F.late k < rank F.n F.late i → crowded F b i k ≡ false) → tight F b i k ≡ false
  unfolding tight crowded
  tight_not i k hi hk out =
      ⊎_elim (λ l. and_right (before_by F.late k i) (crowded F b i k) (out l)) (λ l. and_left (before_by F.late k i) (crowded F b i k) (rank_not_before F.late F.n k i hk hi l)) (cases_lt (rank F.n F.late k) (rank F.n F.late i))

  -- no job is tight
  edge_none : (i : ℕ) → i < F.n → ((k : ℕ) → k < F.n → rank F.n F.late k < rank F.n F.late i → crowded F b i k ≡ false) → 0 ≡ edge_early F b i
  unfolding edge_early
  edge_none i hi out =
      sym (ap (λ o. elim o [ None ↦ 0 | Some j ↦ or_zero (after F b (up_to F j) i) ]) (first_none (λ k j. before_by F.late j k) (tight F b i) F.n (λ k hk. tight_not i k hi hk (out k hk))))

  -- j is the last that is tight
  edge_found : (i j t : ℕ) → i < F.n → HasRank F.n F.late t j → t < rank F.n F.late i → crowded F b i j ≡ true → ((k : ℕ) → k < F.n → t + 1 ≤ rank F.n F.late k → rank F.n F.late k < rank F.n F.late i → crowded F b i k ≡ false) → or_zero (after F b (up_to F j) i) ≡ edge_early F b i
  unfolding edge_early tight crowded
  edge_found i j t hi at l y out =
      sym (ap (λ o. elim o [ None ↦ 0 | Some k ↦ or_zero (after F b (up_to F k) i) ])
      (greatest_first F.n F.late (tight F b i) j at.0 (and_from (before_by F.late j i) (crowded F b i j) (rank_before F.late F.n j i at.0 hi (omega (arith, at.1))) y) (λ k hk m. tight_not i k hi hk (λ m'. out k hk (omega (arith, at.1)) m'))))

  module _ (j t : ℕ) (at : HasRank F.n F.late t j) where
    -- no grey job is up to j
    pub walked_apart : (greys : List Bool) (out : List ℕ) → ((i : ℕ) → i < F.n → Walked F b (t + 1) i (flagged greys i) (get_or out i 0)) → Apart F (up_to F j) (flagged greys)
    walked_apart greys out walked k hk g = up_to_firsts F j t at k hk ∙ le-ltb (rank F.n F.late k) (t + 1) ((walked k hk).still_grey g).0

    pub up_to_self : up_to F j j ≡ true
    up_to_self = up_to_firsts F j t at j at.0 ∙ lt-ltb (rank F.n F.late j) (t + 1) (omega (arith, at.1))

    -- the white jobs without j
    pub firsts_fewer : Same F.n (but j (up_to F j)) (firsts F.n F.late t)
    firsts_fewer k hk =
        ⊎_elim
        (λ e. le-ltb (rank F.n F.late k) t (omega (arith, ap (rank F.n F.late) e, at.1)) ∙ sym (ap (but j (up_to F j)) e ∙ but_here j (up_to F j)))
        (λ d.
        let a = rank_apart F.late F.n k j hk at.0 d in
        shifted (rank F.n F.late k) (λ e. a (e ∙ sym at.1)) ∙ sym (but_others F.n j (up_to F j) k hk d ∙ up_to_firsts F j t at k hk))
        (cases_eq k j)
      where
        shifted : (x : ℕ) → x ≢ t → ltb x t ≡ ltb x (t + 1)
        shifted x d = ⊎_elim (λ l. lt-ltb x t l ∙ sym (lt-ltb x (t + 1) (omega arith))) (λ l. le-ltb x t l ∙ sym (le-ltb x (t + 1) (omega arith))) (cases_lt x t)

    -- the grey jobs with j
    pub flags_more : (flags : List Bool) → j < length flags → Same F.n (with_job j (flagged flags)) (flagged (set flags j true))
    flags_more flags h k hk =
        ⊎_elim
        (λ e. ap (flagged (set flags j true)) e ∙ flag_here flags j true h ∙ sym (ap (with_job j (flagged flags)) e ∙ with_here j (flagged flags)))
        (λ d. flag_other flags j k true d ∙ sym (with_others F.n j (flagged flags) k hk d))
        (cases_eq k j)

    -- one job's turn
    pub walked_more : (greys greys' : List Bool) (out out' : List ℕ) → j < length greys' → ((i : ℕ) → i < F.n → Walked F b (t + 1) i (flagged greys i) (get_or out i 0)) → ((k : ℕ) → k < F.n → Moved F b j greys out greys' out' k) → ((k : ℕ) → k < F.n → flagged greys' k ≡ true → crowded F b k j ≡ false) → (i : ℕ) → i < F.n → Walked F b t i (flagged (set greys' j true) i) (get_or out' i 0)
    walked_more greys greys' out out' long walked moved quiet i hi =
        ⊎_elim (λ e. subst (λ k. Walked F b t k (flagged (set greys' j true) k) (get_or out' k 0)) (sym e) own) (λ d. subst (λ f. Walked F b t i f (get_or out' i 0)) (sym (flag_other greys' j i true d)) (other d (moved i hi))) (cases_eq i j)
      where
        own : Walked F b t j (flagged (set greys' j true) j) (get_or out' j 0)
        own =
            let before = (walked j at.0).to_come (omega (arith, at.1)) in
            let end : get_or out' j 0 ≡ 0 = ⊎_elim (λ m. m.1 ∙ before.1) (λ m. absurd (both_ways _ before.0 m.0)) (moved j at.0) in
            record {
              to_come = λ l. absurd (omega (arith, at.1));
              still_grey = λ _. (omega (arith, at.1), end, λ k hk l m. absurd (omega (arith, at.1)));
              resolved = λ f _. absurd (both_ways _ f (flag_here greys' j true long));
            }

        other : i ≢ j → Moved F b j greys out greys' out' i → Walked F b t i (flagged greys' i) (get_or out' i 0)
        other d (inl (flag, end)) =
            let w = walked i hi in
            let a = rank_apart F.late F.n i j hi at.0 d in
            record {
              to_come = λ l. let x = w.to_come (omega arith) in (flag ∙ x.0, end ∙ x.1);
              still_grey = λ y.
                  let x = w.still_grey (sym flag ∙ y) in (
                    omega (arith, x.0),
                    end ∙ x.1,
                    λ k hk l m.
                        ⊎_elim (λ e. ap (crowded F b i) e ∙ quiet i hi y)
                        (λ ne. let c = rank_apart F.late F.n k j hk at.0 ne in x.2 k hk (omega (arith, at.1)) m) (cases_eq k j),
                  );
              resolved = λ f l. end ∙ w.resolved (sym flag ∙ f) (omega (arith, at.1));
            }
        other d (inr (was, now_off, y, end)) =
            let x = (walked i hi).still_grey was in
            record {
              to_come = λ l. absurd (omega (arith, x.0));
              still_grey = λ g. absurd (both_ways _ now_off g);
              resolved = λ _ _. end ∙ edge_found i j t hi at (omega (arith, x.0)) y x.2;
            }

  -- where no job is done yet
  pub walked_none : (t i : ℕ) (grey : Bool) (end : ℕ) → rank F.n F.late i < t → grey ≡ false → end ≡ 0 → Walked F b t i grey end
  walked_none t i grey end l f e = record {
    to_come = λ _. (f, e);
    still_grey = λ g. absurd (both_ways _ f g);
    resolved = λ _ m. absurd (omega arith);
  }

  -- where all are
  pub walked_all : (i : ℕ) (grey : Bool) (end : ℕ) → i < F.n → Walked F b 0 i grey end → end ≡ edge_early F b i
  walked_all i grey end hi w =
      ⊎_elim (λ g. let x = w.still_grey g in x.1 ∙ edge_none i hi (λ k hk l. x.2 k hk (omega arith) l)) (λ f. w.resolved f (omega arith)) (cases_Bool grey)
