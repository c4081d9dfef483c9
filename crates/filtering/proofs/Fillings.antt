-- Filling a tree by latest start. Assumes nothing.
use Rattle.std.proofs.Common.{◌≡◌, ℕ, ◌+◌, ◌<◌, ◌≤◌, not, ◌&&◌, eqb, List, length, get_or, set, Some, None, Option, sym, ap, ◌∙◌, ⊎_elim, refl, subst, Bool, length-set, arith, get_or-set_other, get_or-set_same}
use Rattle.std.proofs.lemmas.Bool.{cases_eq, cases_lt, lt-ltb, le-ltb}
use Rattle.std.specs.Option.{unwrap_or}
use Rattle.theta_nodes.specs.White.{Timed}
use Rattle.rules.specs.Faces.{Face, earliest_finish, latest_start}
use Rattle.rules.specs.Places.{E}
use Rattle.rules.specs.Rules.{or_zero, least_over, sum, after, detected, detected_early, rivals, not_last_late}
use Rattle.rules.specs.Theorems.{Fine}
use Rattle.face.specs.Orders.{rank, HasRank, firsts}
use Rattle.face.specs.WhiteTrees.{but}
use Rattle.face.specs.declared.white_tree.WhiteTree.{WhiteTree}
use Rattle.face.proofs.Ranks.{rank_apart, rank_below, rank_key}
use Rattle.face.proofs.Whites.{Same, E_same, E_timed}
use Rattle.filtering.specs.Ends.{late_from}
use Rattle.filtering.specs.Sets.{under, Filled, AtMost}

-- the q first jobs have to start before a limit
abbrev pub Low : Face → ℕ → ℕ → Type 0
Low F q limit = (k : ℕ) → k < F.n → rank F.n (latest_start F) k < q → latest_start F k < limit

module _ (F : Face) where
  same_by : (q limit : ℕ) → Low F q limit → ((k : ℕ) → k < F.n → q ≤ rank F.n (latest_start F) k → limit ≤ latest_start F k) → Same F.n (firsts F.n (latest_start F) q) (under F limit)
  same_by q limit low high k hk =
      ⊎_elim
      (λ l. lt-ltb (latest_start F k) limit (low k hk l) ∙ sym (lt-ltb (rank F.n (latest_start F) k) q l))
      (λ l. le-ltb (latest_start F k) limit (high k hk l) ∙ sym (le-ltb (rank F.n (latest_start F) k) q l))
      (cases_lt (rank F.n (latest_start F) k) q)

  -- the filling stops at a job that can wait
  pub stops : (j q limit : ℕ) → HasRank F.n (latest_start F) q j → limit ≤ latest_start F j → Low F q limit → Same F.n (firsts F.n (latest_start F) q) (under F limit)
  stops j q limit at h low = same_by q limit low (λ k hk l. omega (arith, rank_key (latest_start F) F.n j k at.0 hk (omega (arith, at.1))))

  -- or where no job is left
  pub full : (q limit : ℕ) → F.n ≤ q → Low F q limit → Same F.n (firsts F.n (latest_start F) q) (under F limit)
  full q limit h low = same_by q limit low (λ k hk l. absurd (omega (arith, rank_below (latest_start F) F.n k hk)))

  pub low_more : (j q limit : ℕ) → HasRank F.n (latest_start F) q j → latest_start F j < limit → Low F q limit → Low F (q + 1) limit
  low_more j q limit at h low k hk l =
      ⊎_elim (λ e. omega (arith, ap (latest_start F) e)) (λ d. let a = rank_apart (latest_start F) F.n k j hk at.0 d in low k hk (omega (arith, at.1))) (cases_eq k j)

  module _ (b : ℕ → ℕ) (q i limit : ℕ) (same : Same F.n (firsts F.n (latest_start F) q) (under F limit)) where
    -- the finish of the others that have to start before a limit
    finish_under : (finish : Option ℕ) → finish ≡ E F b (but i (firsts F.n (latest_start F) q)) → finish ≡ E F b (but i (under F limit))
    finish_under finish e = e ∙ sym (E_same F b (but i (firsts F.n (latest_start F) q)) (but i (under F limit)) (λ k hk. ap (λ t. not (eqb k i) && t) (same k hk)))

    -- and the least gap after them
    pub after_under : (finish : Option ℕ) → finish ≡ E F b (but i (firsts F.n (latest_start F) q)) → sum finish (least_over (but i (under F limit)) (λ j. F.gap j i) F.n) ≡ after F b (but i (under F limit)) i
    unfolding after
    after_under finish e = ap (λ x. sum x (least_over (but i (under F limit)) (λ j. F.gap j i) F.n)) (finish_under finish e)

  pub detected_is : (b : ℕ → ℕ) (i limit : ℕ) (o : Option ℕ) → limit ≡ earliest_finish F i → o ≡ after F b (but i (under F limit)) i → or_zero o ≡ detected_early F b i
  unfolding detected_early detected
  detected_is b i limit o el eo = ap or_zero (eo ∙ ap (λ x. after F b (but i (under F x)) i) el)

  pub not_last_is : (b : ℕ → ℕ) (i limit : ℕ) (o : Option ℕ) → limit ≡ F.late i → o ≡ after F b (but i (under F limit)) i → late_from F o i ≡ not_last_late F b i
  unfolding not_last_late rivals
  not_last_is b i limit o el eo = ap (λ x. late_from F x i) (eo ∙ ap (λ y. after F b (but i (under F y)) i) el)

-- the t first jobs by a key have what a rule gives them, and no later one has a key below that of the jobs in the tree
pub record Progress (F : Face) (b key rule : ℕ → ℕ) (t : ℕ) (out : List ℕ) (q : ℕ) (T : WhiteTree) : Type 0 where
  pub long : length out ≡ 32
  pub done : (i : ℕ) → i < F.n → rank F.n key i < t → get_or out i 0 ≡ rule i
  pub low : ℕ
  pub filled : Filled F b q low T
  pub rising : (i : ℕ) → i < F.n → t ≤ rank F.n key i → low ≤ key i

module _ (F : Face) (b key rule : ℕ → ℕ) where
  -- before the first job
  pub progress_none : (out : List ℕ) (q : ℕ) (T : WhiteTree) → length out ≡ 32 → Filled F b q 0 T → Progress F b key rule 0 out q T
  progress_none out q T long filled = record { long = long; done = λ i h l. absurd (omega arith); low = 0; filled = filled; rising = λ i h l. omega arith }

  module _ (t j limit q : ℕ) (out : List ℕ) (T : WhiteTree) (at : HasRank F.n key t j) (is : limit ≡ key j) (before : Progress F b key rule t out q T) where
    -- one job more
    pub progress_more : (v q' : ℕ) (T' : WhiteTree) → Fine F → v ≡ rule j → Filled F b q' limit T' → Progress F b key rule (t + 1) (set out j v) q' T'
    progress_more v q' T' fine value filled = record {
      long = length-set out j v ∙ before.long;
      done = λ i hi l.
          ⊎_elim
          (λ e. ap (λ p. get_or (set out j v) p 0) e ∙ get_or-set_same out j v 0 (omega (arith, before.long, at.0, fine.few)) ∙ value ∙ ap rule (sym e))
          (λ d. get_or-set_other out j i v 0 d ∙ before.done i hi (let a = rank_apart key F.n i j hi at.0 d in omega (arith, at.1)))
          (cases_eq i j);
      low = limit;
      filled = filled;
      rising = λ k hk l. omega (arith, is, rank_key key F.n j k at.0 hk (omega (arith, at.1)));
    }

  -- after the last
  pub progress_all : (t : ℕ) (out : List ℕ) (q : ℕ) (T : WhiteTree) → F.n ≤ t → Progress F b key rule t out q T → (i : ℕ) → i < F.n → get_or out i 0 ≡ rule i
  progress_all t out q T h all i hi = all.done i hi (omega (arith, rank_below key F.n i hi))

-- a finish is of at most so many minutes
pub finish_small : (F : Face) (b : ℕ → ℕ) → Fine F → (S : ℕ → Bool) (finish : Option ℕ) → finish ≡ E F b S → AtMost 1000000000 finish
finish_small F b fine S finish e = go finish (subst Timed (sym e) (E_timed F b fine S))
  where
    go : (o : Option ℕ) → Timed o → AtMost 1000000000 o
    go None h = tt
    go (Some t) h = h

pub or_zero_is : (o : Option ℕ) → unwrap_or o 0 ≡ or_zero o
or_zero_is None = refl
or_zero_is (Some t) = refl
