-- Each kind of bound keeps the law, and its numbers are small. Assumes nothing.
use Rattle.std.specs.Prelude.{◌≡◌, ℕ, suc, ◌+◌, ◌*◌, ◌<◌, ◌≤◌, cond, ◌≢◌, List, [], ◌∷◌, length, nat_lt}
use Rattle.std.proofs.Common.{sym, ap, ◌∙◌, mul-le-mul, suc-mul, zero-mul, zero-add, arith}
use Rattle.std.proofs.lemmas.Bool.{cond_both, cond-false, ltb-true, le-ltb}
use Rattle.changeover.specs.Rows.{Lawful, Within, Different, gaps_from, gaps_along}
use Rattle.changeover.specs.Kinds.{larger, least, but, least_gap, multiples, walk, shortest_walk}
use Rattle.changeover.specs.Leasts.{least_under, but_other}

-- a number that is given below n alone
pub below_small : (n e x top : ℕ) → (e < n → x ≤ top) → cond (nat_lt e n) x 0 ≤ top
below_small n e x top h = cond_both (nat_lt e n) x 0 (λ y. y ≤ top) (λ t. h (ltb-true e n t)) (λ _. omega arith)

pub below_past : (n e x : ℕ) → n ≤ e → cond (nat_lt e n) x 0 ≡ 0
below_past n e x h = cond-false _ _ _ (le-ltb e n h)

module _ (n : ℕ) (gap : ℕ → ℕ → ℕ) where
  pub least_gap_under : (x y : ℕ) → x < n → y < n → x ≢ y → least_gap n gap ≤ gap x y
  least_gap_under x y hx hy ne =
      let outer = least_under 12000 n (λ i. least 12000 n (but 12000 i (gap i))) x hx in
      let inner = least_under 12000 n (but 12000 x (gap x)) y hy in
      let e = but_other 12000 x (gap x) y (λ q. ne (sym q)) in
      omega arith

  multiples_from : (x : ℕ) (xs : List ℕ) → Within n (x ∷ xs) → Different (x ∷ xs) → length xs * least_gap n gap ≤ gaps_from gap x xs
  multiples_from x [] within different = rw zero-mul (omega arith)
  multiples_from x (y ∷ ys) within different =
      let step = least_gap_under x y within.0 within.1.0 different.0.0 in
      let rest = multiples_from y ys within.1 different.1 in
      rw suc-mul (omega arith)

  multiples_row : (e : ℕ) (row : List ℕ) → Within n row → Different row → length row ≡ e + 1 → e * least_gap n gap ≤ gaps_along gap row
  multiples_row e [] within different long = absurd (omega arith)
  multiples_row e (x ∷ xs) within different long =
      let same : length xs ≡ e = omega arith in
      rw (← same) (multiples_from x xs within different)

  pub multiples_lawful : Lawful n gap (multiples n (least_gap n gap))
  multiples_lawful = record {
    past = λ e h. below_past n e _ h;
    under = λ e row r. below_small n e _ _ (λ _. multiples_row e row r.within r.different r.long);
  }

  pub walk_step : (e x y : ℕ) → x < n → x ≢ y → walk n gap (suc e) y ≤ walk n gap e x + gap x y
  walk_step e x y hx ne =
      let f : ℕ → ℕ = λ i. walk n gap e i + gap i y in
      let u = least_under 400000 n (but 400000 y f) x hx in
      let e = but_other 400000 y f x ne in
      omega arith

  -- from x on, which e gaps lead to
  walk_from : (e x : ℕ) (xs : List ℕ) → Within n (x ∷ xs) → Different (x ∷ xs) → least 400000 n (walk n gap (length xs + e)) ≤ walk n gap e x + gaps_from gap x xs
  walk_from e x [] within different =
      let u = least_under 400000 n (walk n gap e) x within.0 in
      rw zero-add (omega arith)
  walk_from e x (y ∷ ys) within different =
      let step = walk_step e x y within.0 different.0.0 in
      let rest = walk_from (suc e) y ys within.1 different.1 in
      let moved : length ys + suc e ≡ suc (length ys) + e = omega arith in
      let same = ap (λ k. least 400000 n (walk n gap k)) moved in
      omega arith

  walk_row : (e : ℕ) (row : List ℕ) → Within n row → Different row → length row ≡ e + 1 → least 400000 n (walk n gap e) ≤ gaps_along gap row
  walk_row e [] within different long = absurd (omega arith)
  walk_row e (x ∷ xs) within different long =
      let same : length xs + 0 ≡ e = omega arith in
      let at = ap (λ k. least 400000 n (walk n gap k)) same in
      let u = walk_from 0 x xs within different in
      omega arith

  pub walk_lawful : Lawful n gap (shortest_walk n gap)
  walk_lawful = record {
    past = λ e h. below_past n e _ h;
    under = λ e row r. below_small n e _ _ (λ _. walk_row e row r.within r.different r.long);
  }

pub multiples_small : (n step e : ℕ) → n ≤ 32 → step ≤ 12000 → multiples n step e ≤ 400000
multiples_small n step e hn hs =
    below_small n e _ _ (λ lt. let le : e ≤ 31 = omega arith in let m = mul-le-mul le hs in omega arith)

-- numbers that agree keep the same law
pub lawful_same : (n : ℕ) (gap : ℕ → ℕ → ℕ) (a b : ℕ → ℕ) → ((e : ℕ) → b e ≡ a e) → Lawful n gap a → Lawful n gap b
lawful_same n gap a b same k = record {
  past = λ e h. same e ∙ k.past e h;
  under = λ e row r. let s = same e in let u = k.under e row r in omega arith;
}

-- of two that keep the law, the larger place by place keeps it
pub larger_lawful : (n : ℕ) (gap : ℕ → ℕ → ℕ) (a b : ℕ → ℕ) → Lawful n gap a → Lawful n gap b → Lawful n gap (larger a b)
larger_lawful n gap a b ka kb = record {
  past = λ e h. omega (arith, ka.past e h, kb.past e h);
  under = λ e row r. omega (arith, ka.under e row r, kb.under e row r);
}
