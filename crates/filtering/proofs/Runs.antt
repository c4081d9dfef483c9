-- A loop that goes round by round reaches what settling gives. Assumes nothing.
use Rattle.std.proofs.Common.{◌≡◌, ℕ, zero, suc, ◌+◌, ◌-◌, ◌*◌, ◌<◌, ◌≤◌, Bool, true, false, cond, Some, None, sym, refl, ap, ◌∙◌, subst, ⊎_elim, not-suc-le-zero, arith}
use Rattle.std.proofs.lemmas.Bool.{cases_eq, cond-true, cond-false, and_from, and_left, and_right}
use Rattle.std.specs.Bool.{MatchBool}
use Rattle.changeover.specs.Rows.{Lawful}
use Rattle.rules.specs.declared.outcome.Cause.{Cause}
use Rattle.rules.specs.Faces.{Face}
use Rattle.rules.specs.Settling.{Round, stops, leaves, round, same_windows, unchanged, Outcome, minutes, all_minutes, settled_within, settled}
use Rattle.rules.specs.Theorems.{Fine}
use Rattle.rules.proofs.Minutes.{minutes_fall}
use Rattle.rules.proofs.Rounds.{shrunk_n, shrunk_lawful, round_leaves}
use Rattle.rules.proofs.Sound.{rules_hold, turning_holds}
use Rattle.filtering.specs.Ends.{same_at}

module _ (F G : Face) where
  -- one window more
  same_step : (k : ℕ) → true ≡ same_windows F G k → true ≡ same_at F G k → true ≡ same_windows F G (suc k)
  unfolding same_windows
  same_step k before here = sym (and_from (same_windows F G k) (same_at F G k) (sym before) (sym here))

  same_not : (k n : ℕ) → k < n → false ≡ same_at F G k → false ≡ same_windows F G n
  unfolding same_windows
  same_not k zero h here = absurd (not-suc-le-zero h)
  same_not k (suc n) h here =
      ⊎_elim (λ e. sym (and_right (same_windows F G n) (same_at F G n) (sym (here ∙ ap (same_at F G) e))))
      (λ d. sym (and_left (same_windows F G n) (same_at F G n) (sym (same_not k n (omega arith) here))))
      (cases_eq k n)

  same_from : (n : ℕ) → ((k : ℕ) → k < n → same_at F G k ≡ true) → true ≡ same_windows F G n
  unfolding same_windows
  same_from zero all = refl
  same_from (suc n) all = same_step n (same_from n (λ k h. all k (omega arith))) (sym (all n (omega arith)))

  -- what `all` over the jobs says
  pub same_every : (n : ℕ) (b : Bool) → MatchBool b ((k : ℕ) → k < n → same_at F G k ≡ true) ((k : ℕ) × (k < n) × (same_at F G k ≡ false)) → b ≡ same_windows F G n
  same_every n true all = same_from n all
  same_every n false (k, h, not) = same_not k n h (sym not)

-- so many minutes at most
minutes_under : (F : Face) → Fine F → (k : ℕ) → k ≤ F.n → minutes F k ≤ 1000000 * k
unfolding minutes
minutes_under F fine zero h = omega arith
minutes_under F fine (suc k) h = omega (arith, minutes_under F fine k (omega arith), fine.closes k (omega arith))

pub minutes_few : (F : Face) → Fine F → all_minutes F ≤ 32000000
minutes_few F fine = omega (arith, minutes_under F fine F.n (omega arith), fine.few)

module _ (b : ℕ → ℕ) where
  -- what settling with fuel makes of a round
  abbrev after_round : ℕ → Face → ℕ → Round → Outcome
  after_round fuel F r R =
      elim R [
        | stops c G ↦ record { cause = Some c; rounds = r + 1; held = G }
        | leaves G ↦ cond (unchanged F G) (record { cause = None; rounds = r + 1; held = F }) (settled_within fuel b G (r + 1))
      ]

  within_round : (fuel : ℕ) (F : Face) (r : ℕ) → settled_within (suc fuel) b F r ≡ after_round fuel F r (round F b)
  unfolding settled_within
  within_round fuel F r = refl

  within_stops : (fuel : ℕ) (F G : Face) (r : ℕ) (c : Cause) → round F b ≡ stops c G → settled_within (suc fuel) b F r ≡ record { cause = Some c; rounds = r + 1; held = G }
  within_stops fuel F G r c e = within_round fuel F r ∙ ap (after_round fuel F r) e

  within_ends : (fuel : ℕ) (F G : Face) (r : ℕ) → round F b ≡ leaves G → unchanged F G ≡ true → settled_within (suc fuel) b F r ≡ record { cause = None; rounds = r + 1; held = F }
  within_ends fuel F G r e u =
      within_round fuel F r ∙ ap (after_round fuel F r) e
      ∙ cond-true (unchanged F G) (record { cause = None; rounds = r + 1; held = F }) (settled_within fuel b G (r + 1)) u

  within_next : (fuel : ℕ) (F G : Face) (r : ℕ) → round F b ≡ leaves G → unchanged F G ≡ false → settled_within (suc fuel) b F r ≡ settled_within fuel b G (r + 1)
  within_next fuel F G r e u =
      within_round fuel F r ∙ ap (after_round fuel F r) e
      ∙ cond-false (unchanged F G) (record { cause = None; rounds = r + 1; held = F }) (settled_within fuel b G (r + 1)) u

  -- a round that changes a window cuts a minute
  pub changed_less : (F G : Face) → Fine F → Lawful F.n F.gap b → leaves G ≡ round F b → false ≡ unchanged F G → all_minutes G < all_minutes F
  changed_less F G fine law e u =
      let s = (round_leaves rules_hold turning_holds F b fine law G (sym e)).1.shrunk in
      subst (λ k. minutes G k < all_minutes F) (sym (shrunk_n F G s)) (minutes_fall F G s.opens s.closes (λ j h. omega (arith, fine.wide j h, fine.lasts j h)) F.n (omega arith) (sym u))

  -- settling F has come to G after r rounds
  pub record Came (F G : Face) (r : ℕ) : Type 0 where
    pub lawful : Lawful G.n G.gap b
    pub less : r + all_minutes G ≤ all_minutes F
    pub goes : settled b F ≡ settled_within (all_minutes F + 1 - r) b G r

  module _ (F G : Face) (r : ℕ) (came : Came F G r) where
    fuelled : all_minutes F + 1 - r ≡ suc (all_minutes F - r)
    fuelled = omega (arith, came.less)

    goes_on_with : settled b F ≡ settled_within (suc (all_minutes F - r)) b G r
    goes_on_with = came.goes ∙ ap (λ fuel. settled_within fuel b G r) fuelled

    -- a round that stops is the end
    pub came_stops : (H : Face) (c : Cause) → stops c H ≡ round G b → record { cause = Some c; rounds = r + 1; held = H } ≡ settled b F
    came_stops H c e = sym (goes_on_with ∙ within_stops (all_minutes F - r) G H r c (sym e))

    -- so is one that changes nothing
    pub came_ends : (H : Face) → leaves H ≡ round G b → true ≡ unchanged G H → record { cause = None; rounds = r + 1; held = G } ≡ settled b F
    came_ends H e u = sym (goes_on_with ∙ within_ends (all_minutes F - r) G H r (sym e) (sym u))

    -- after any other settling goes on
    pub came_next : (H : Face) → Fine G → leaves H ≡ round G b → false ≡ unchanged G H → Came F H (r + 1)
    came_next H fine e u = record {
      lawful = shrunk_lawful G H b (round_leaves rules_hold turning_holds G b fine came.lawful H (sym e)).1.shrunk came.lawful;
      less = omega (arith, came.less, changed_less G H fine came.lawful e u);
      goes = goes_on_with ∙ within_next (all_minutes F - r) G H r (sym e) (sym u) ∙ ap (λ fuel. settled_within fuel b H (r + 1)) (omega (arith, came.less));
    }

-- numbers that are equal one by one are the same numbers
pub same_numbers : (b c : ℕ → ℕ) → ((e : ℕ) → b e ≡ c e) → b ≡ c
same_numbers b c each = λ r e. each e r
