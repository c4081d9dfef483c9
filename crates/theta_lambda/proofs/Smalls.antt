-- No sum of leaves in their limits comes near the cap, so that a join is the plain sums. Assumes nothing.
use Rattle.std.proofs.Common.{◌≡◌, ℕ, zero, suc, ◌+◌, ◌*◌, ◌^◌, ◌<◌, ◌≤◌, max, eqb, Some, None, Option, refl, ap, ◌∙◌, subst, arith, pow_pos}
use Rattle.std.proofs.lemmas.Bool.{cond_both}
use Rattle.theta_nodes.specs.declared.white.White.{White}
use Rattle.theta_nodes.specs.White.{later, after, white_join}
use Rattle.theta_nodes.specs.Grey.{rank}
use Rattle.theta_nodes.specs.Leaves.{Leaf, nothing_here, white_here, grey_here, InLimits, whitened, with_white, in_white}
use Rattle.theta_lambda.proofs.Bests.{sh, sh_more}
use Rattle.theta.proofs.Grows.{grow}

pub rank_later : (x y : Option ℕ) → rank (later x y) ≡ max (rank x) (rank y)
rank_later None y = omega arith
rank_later (Some a) None = omega arith
rank_later (Some a) (Some c) = omega arith

pub rank_after : (x : Option ℕ) (d : ℕ) → rank x + d ≤ 1000000000 → rank (after x d) ≡ sh (rank x) d
rank_after None d h = refl
rank_after (Some t) d h = omega (arith, sh_more (suc t) d (omega arith))

-- sh adds at most d
sh_most : (x d : ℕ) → sh x d ≤ x + d
sh_most zero d = omega arith
sh_most (suc x) d = omega (arith, sh_more (suc x) d (omega arith))

-- what w leaves come to at most
pub record Small (w : ℕ) (x : White) : Type 0 where
  pub totals : x.total ≤ 100000 * w
  pub counts : x.count ≤ w
  pub ends : rank x.finish ≤ 1000001 + 500000 * w

-- x is the join of l and r, with no cap
pub record Plain (b : ℕ → ℕ) (l r x : White) : Type 0 where
  pub total_is : x.total ≡ l.total + r.total
  pub count_is : x.count ≡ l.count + r.count
  pub finish_is : rank x.finish ≡ max (rank r.finish) (sh (rank l.finish) (r.total + b r.count))

module _ (b : ℕ → ℕ) (low : (e : ℕ) → b e ≤ 400000) where
  pub plain : (w : ℕ) (l r : White) → w ≤ 32 → Small w l → Small w r → Plain b l r (white_join b l r)
  unfolding white_join
  plain w l r h hl hr =
      let d : ℕ = r.total + b r.count in
      let few = low r.count in
      record {
        total_is = omega (arith, hl.totals, hr.totals);
        count_is = omega (arith, hl.counts, hr.counts);
        finish_is = rank_later r.finish (after l.finish d) ∙ ap (max (rank r.finish)) (rank_after l.finish d (omega (arith, hl.ends, hr.totals)));
      }

  small_join : (w : ℕ) (l r : White) → 1 ≤ w → w ≤ 32 → Small w l → Small w r → Small (2 * w) (white_join b l r)
  small_join w l r one h hl hr =
      let p = plain w l r h hl hr in
      let few = low r.count in
      record {
        totals = omega (arith, p.total_is, hl.totals, hr.totals);
        counts = omega (arith, p.count_is, hl.counts, hr.counts);
        ends = omega (arith, p.finish_is, sh_most (rank l.finish) (r.total + b r.count), hl.ends, hr.ends, hr.totals);
      }

  small_leaf : (y : Leaf) → InLimits y → Small 1 (in_white y)
  small_leaf nothing_here h = record { totals = omega arith; counts = omega arith; ends = omega arith }
  small_leaf (white_here d f) h = record { totals = omega (arith, h.1); counts = omega arith; ends = omega (arith, h.2) }
  small_leaf (grey_here d f) h = record { totals = omega arith; counts = omega arith; ends = omega arith }

  pub small : (leaves : ℕ → Leaf) → ((p : ℕ) → p < 32 → InLimits (leaves p)) → (k p : ℕ) → p + 2 ^ k ≤ 32 → Small (2 ^ k) (grow (white_join b) (λ q. in_white (leaves q)) k p)
  unfolding grow
  small leaves ok zero p h = small_leaf (leaves p) (ok p (omega arith))
  small leaves ok (suc k) p h =
      let e : 2 * 2 ^ k ≡ 2 ^ suc k = omega arith in
      let T : ℕ → White = grow (white_join b) (λ q. in_white (leaves q)) k in
      subst (λ w. Small w (white_join b (T p) (T (p + 2 ^ k)))) e
      (small_join (2 ^ k) (T p) (T (p + 2 ^ k)) (pow_pos k) (omega arith) (small leaves ok k p (omega arith)) (small leaves ok k (p + 2 ^ k) (omega arith)))

whitened_limits : (y : Leaf) → InLimits y → InLimits (whitened y)
whitened_limits nothing_here h = h
whitened_limits (white_here d f) h = h
whitened_limits (grey_here d f) h = h

-- a grey leaf made white is in its limits
pub with_white_limits : (leaves : ℕ → Leaf) → ((p : ℕ) → p < 32 → InLimits (leaves p)) → (g p : ℕ) → p < 32 → InLimits (with_white g leaves p)
with_white_limits leaves ok g p h = cond_both (eqb p g) (whitened (leaves p)) (leaves p) InLimits (λ _. whitened_limits (leaves p) (ok p h)) (λ _. ok p h)
