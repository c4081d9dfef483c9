-- Windows in card order, written by card. Assumes nothing.
use Rattle.std.proofs.Common.{◌≡◌, ℕ, ◌+◌, ◌-◌, ◌<◌, ◌≤◌, ◌≢◌, Bool, true, false, cond, ltb, List, length, get_or, set, sym, refl, ap, ◌∙◌, ⊎_elim, arith, get_or-set_other, get_or-set_same}
use Rattle.std.proofs.lemmas.Bool.{cases_eq, cases_lt, lt-ltb, le-ltb}
use Rattle.rules.specs.declared.sheet.Window.{Window}
use Rattle.rules.specs.Cards.{member, rising_to}
use Rattle.rules.specs.Books.{no_window}
use Rattle.rules.proofs.Chains.{placed, found}
use Rattle.sheet.specs.Read.{after_place}

module _ (chain : List ℕ) (windows : List Window) where
  -- of the first j windows, the one on the card after k
  pub so_far : ℕ → ℕ → Window
  so_far j k = cond (member (k + 1) chain) (cond (ltb (length (rising_to chain k)) j) (get_or windows (length (rising_to chain k)) no_window) no_window) no_window

  pub start : (k : ℕ) → no_window ≡ so_far 0 k
  unfolding so_far
  start k =
      rw (le-ltb (length (rising_to chain k)) 0 (omega arith)) (elim (member (k + 1) chain) as (λ b. no_window ≡ cond b no_window no_window) [ true ↦ refl | false ↦ refl ])

  -- another window makes no difference to another card
  kept : (j k : ℕ) → k < 32 → get_or (rising_to chain 32) j 0 ≢ k + 1 → so_far j k ≡ so_far (j + 1) k
  unfolding so_far
  kept j k h other = go (member (k + 1) chain) refl
    where
      n : ℕ
      n = length (rising_to chain k)

      same : member (k + 1) chain ≡ true → ltb n j ≡ ltb n (j + 1)
      same there =
          ⊎_elim (λ lt. lt-ltb n j lt ∙ sym (lt-ltb n (j + 1) (omega arith)))
          (λ past.
          let f = found chain 32 (k + 1) there (omega arith) (omega arith) in
          ⊎_elim
          (λ e. absurd (other (ap (λ i. get_or (rising_to chain 32) i 0) (sym e ∙ ap (λ x. length (rising_to chain x)) before) ∙ f.here)))
          (λ ne. le-ltb n j past ∙ sym (le-ltb n (j + 1) (omega arith)))
          (cases_eq n j))
          (cases_lt n j)
        where
          before : k ≡ k + 1 - 1
          before = omega arith

      go : (b : Bool) → member (k + 1) chain ≡ b → so_far j k ≡ so_far (j + 1) k
      go true there = rw (same there) refl
      go false not_there = rw not_there refl

  -- the j-th window is written
  pub more : (all : List Window) (j card k : ℕ) → j < length (rising_to chain 32) → card ≡ get_or (rising_to chain 32) j 0 → length all ≡ 32 → k < 32 → ((i : ℕ) → i < 32 → get_or all i no_window ≡ so_far j i)
      → get_or (set all (card - 1) (get_or windows j no_window)) k no_window ≡ so_far (j + 1) k
  unfolding so_far
  more all j card k h is long small before =
      let p = placed chain 32 j h in
      let low : 1 ≤ card = omega (arith, is, p.low) in
      let high : card ≤ 32 = omega (arith, is, p.high) in
      ⊎_elim
      (λ e.
      let next : k + 1 ≡ get_or (rising_to chain 32) j 0 = omega arith in
      let first : k ≡ get_or (rising_to chain 32) j 0 - 1 = omega arith in
      let there : member (k + 1) chain ≡ true = ap (λ x. member x chain) next ∙ p.there in
      let place : length (rising_to chain k) ≡ j = ap (λ x. length (rising_to chain x)) first ∙ p.place in
      let lower : ltb (length (rising_to chain k)) (j + 1) ≡ true = lt-ltb _ _ (omega arith) in
      ap (λ i. get_or (set all (card - 1) (get_or windows j no_window)) i no_window) e
      ∙ get_or-set_same all (card - 1) (get_or windows j no_window) no_window (omega arith)
      ∙ rw (there, lower, place) refl)
      (λ ne.
      get_or-set_other all (card - 1) k (get_or windows j no_window) no_window ne ∙ before k small ∙ kept j k small (λ e. ne (omega arith)))
      (cases_eq k (card - 1))

  -- all are
  pub end : (k : ℕ) → k < 32 → so_far (length (rising_to chain 32)) k ≡ after_place chain windows k
  unfolding so_far
  end k h = go (member (k + 1) chain) refl
    where
      go : (b : Bool) → member (k + 1) chain ≡ b → so_far (length (rising_to chain 32)) k ≡ after_place chain windows k
      go false not_there = rw not_there refl
      go true there =
          let f = found chain 32 (k + 1) there (omega arith) (omega arith) in
          let before : k ≡ k + 1 - 1 = omega arith in
          let lower : ltb (length (rising_to chain k)) (length (rising_to chain 32)) ≡ true = lt-ltb _ _ (omega (arith, ap (λ x. length (rising_to chain x)) before, f.below)) in
          rw (there, lower) refl
