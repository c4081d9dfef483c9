-- The steps of the loop that climbs from a leaf to the root.
use Rattle.std.proofs.Common.{◌≡◌, ℕ, zero, suc, ◌+◌, ◌-◌, ◌/◌, ◌<◌, ◌≤◌, List, set, ap, ◌∙◌, inl, inr, arith}
use Rattle.std.proofs.lemmas.Bool.{cases_lt}
use Rattle.theta.specs.Tree.{above, climbed, rejoined, replaced}
use Rattle.theta.proofs.Builts.{above_inner, above_low, above_root}

pub above_small : (k p : ℕ) → p < 32 → above k p < 63
unfolding above
above_small zero p h = omega arith
above_small (suc k) p h = let a = above_inner k p h in omega arith

-- only at the root has the loop come five levels up
pub five : (k p : ℕ) → p < 32 → k ≤ 5 → above k p ≡ 0 → k ≡ 5
five k p h kh e = elim (cases_lt k 5) [ inl lt ↦ absurd (let a = above_low k p h lt in omega arith) | inr ge ↦ omega arith ]

pub under_five : (k p : ℕ) → p < 32 → k ≤ 5 → 0 < above k p → k < 5
under_five k p h kh l = elim (cases_lt k 5) [
  | inl lt ↦ lt
  | inr ge ↦ absurd (let e : k ≡ 5 = omega arith in let z : above k p ≡ 0 = ap (λ j. above j p) e ∙ above_root p h in omega arith)
]

pub next_above : (k p at : ℕ) → at ≡ above k p → (at - 1) / 2 ≡ above (suc k) p
unfolding above
next_above k p at e = ap (λ i. (i - 1) / 2) e

module _ {N : Type 0} (none : N) (join : N → N → N) where
  pub next_climbed : (xs ys zs : List N) (k p at : ℕ) → at ≡ above k p → ys ≡ climbed none join xs p k → zs ≡ rejoined none join ys ((at - 1) / 2) → zs ≡ climbed none join xs p (suc k)
  unfolding climbed
  next_climbed xs ys zs k p at ea ey ez = let en = next_above k p at ea in cc

  pub all_climbed : (xs ys : List N) (k p : ℕ) (x : N) → k ≡ 5 → ys ≡ climbed none join (set xs (31 + p) x) p k → ys ≡ replaced none join xs p x
  unfolding replaced
  all_climbed xs ys k p x e ey = ey ∙ ap (climbed none join (set xs (31 + p) x) p) e
