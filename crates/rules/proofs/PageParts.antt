-- The parts of a page: its changeovers, the records of its cards, and the bytes that belong to neither. Assumes nothing.
use Rattle.std.proofs.Common.{◌≡◌, ℕ, suc, ◌+◌, ◌-◌, ◌*◌, ◌/◌, ◌%◌, ◌<◌, ◌≤◌, Bool, true, false, not, ◌&&◌, eqb, ltb, List, length, get_or, Some, None, Option, refl, ap, ◌∙◌, ⊎_elim, mod-eq_of_lt, mul-le-mul_left, mul-suc, arith}
use native.Mathlib.Nat.{mul-add-div, mul-add-mod_self_left, div-eq_of_lt}
use Rattle.std.proofs.lemmas.List.FromFn.{length-map-range_with_len, get_or-map-range_with_len}
use Rattle.std.proofs.lemmas.Bool.{and_parts, both_ways, not-true, not-false, eqb-true, eq-eqb, ltb-true, lt-ltb, le-ltb, cases_eq, cond-true}
use Rattle.rules.specs.Faults.{record_start}
use Rattle.rules.specs.Cards.{member, is_card}
use Rattle.rules.specs.Places.{first_such}
use Rattle.rules.specs.Books.{no_window, laid_out}
use Rattle.rules.specs.Models.{Model, held_on, Meaning, outcome}
use Rattle.rules.specs.Sounds.{Sound}
use Rattle.rules.specs.Pages.{le16, le32, page_numbers, belongs, first_stray, Behind}
use Rattle.rules.proofs.Chains.{card_within}
use Rattle.rules.proofs.Searches.{such_passes, such_none}
use Rattle.rules.proofs.Sounds.{laid_at}
use Rattle.rules.proofs.Links.{next_none}
use Rattle.rules.proofs.PageBytes.{CardNumbers}
use Rattle.rules.proofs.Promised.{by_card_off}

-- the changeovers of a page, row by row
module _ (p : List ℕ) (m : ℕ) where
  pub numbers_long : length (page_numbers p m) ≡ m * m
  unfolding page_numbers
  numbers_long = length-map-range_with_len (λ i. le16 p (12 + 2 * (16 * (i / m) + i % m))) 0 (m * m)

  pub numbers_at : (a b : ℕ) → a < m → b < m → get_or (page_numbers p m) (m * a + b) 0 ≡ le16 p (12 + 2 * (16 * a + b))
  unfolding page_numbers
  numbers_at a b ha hb =
      let some : 0 < m = omega arith in
      let row : (m * a + b) / m ≡ a = omega (arith, mul-add-div some a b, div-eq_of_lt hb) in
      let column : (m * a + b) % m ≡ b = mul-add-mod_self_left m a b ∙ mod-eq_of_lt hb in
      let next : suc a ≤ m = omega arith in
      get_or-map-range_with_len (λ i. le16 p (12 + 2 * (16 * (i / m) + i % m))) 0 (m * m) (m * a + b) (m * a + b) 0 (omega (arith, mul-le-mul_left m next, mul-suc m a)) (omega arith)
      ∙ rw (row, column)

  -- laid into rows of 16, each is what stands at its place
  pub laid_page : (k : ℕ) → k < 256 → (ltb (k / 16) m && ltb (k % 16) m) ≡ true → get_or (laid_out m (page_numbers p m)) k 0 ≡ le16 p (12 + 2 * k)
  laid_page k h e =
      let q = and_parts (ltb (k / 16) m) (ltb (k % 16) m) e in
      let whole : 16 * (k / 16) + k % 16 ≡ k = omega arith in
      laid_at m (page_numbers p m) k h
      ∙ (cond-true _ _ _ e ∙ (numbers_at (k / 16) (k % 16) (ltb-true _ _ q.0) (ltb-true _ _ q.1) ∙ ap (λ j. le16 p (12 + 2 * j)) whole))

-- where the bytes of a changeover and of a card belong
module _ (m : ℕ) (cards : List ℕ) where
  pub changeover_belongs : (k byte : ℕ) → k < 256 → 12 + 2 * k ≤ byte → byte < 12 + 2 * k + 2 → belongs m cards byte ≡ (ltb (k / 16) m && ltb (k % 16) m)
  changeover_belongs k byte h l u =
      let there : (byte - 12) / 2 ≡ k = omega arith in
      rw (le-ltb byte 12 (omega arith), lt-ltb byte 524 (omega arith), there)

  pub card_belongs : (card byte : ℕ) → is_card card ≡ true → record_start card ≤ byte → byte < record_start card + 24 → belongs m cards byte ≡ member card cards
  card_belongs card byte is l u =
      let w = card_within card is in
      let there : (byte - 524) / 24 + 1 ≡ card = omega arith in
      rw (le-ltb byte 12 (omega arith), le-ltb byte 524 (omega arith), there)

-- no byte is stray just where each that belongs to nothing is zero
module _ (p : List ℕ) (m : ℕ) (cards : List ℕ) where
  abbrev stray : ℕ → Bool
  stray byte = not (belongs m cards byte) && not (eqb (get_or p byte 0) 0)

  pub unused_zero : first_stray p m cards ≡ None → (byte : ℕ) → byte < 1292 → belongs m cards byte ≡ false → get_or p byte 0 ≡ 0
  unfolding first_stray
  unused_zero e byte h off =
      let t = such_none stray 1292 e byte h in eqb-true (get_or p byte 0) 0 (not-false (eqb (get_or p byte 0) 0) (rw off at t))

  pub zero_unused : ((byte : ℕ) → byte < 1292 → belongs m cards byte ≡ false → get_or p byte 0 ≡ 0) → first_stray p m cards ≡ None
  unfolding first_stray
  zero_unused zeros = go (first_such stray 1292) refl
    where
      go : (o : Option ℕ) → first_such stray 1292 ≡ o → o ≡ None
      go None e = refl
      go (Some byte) e =
          let s = such_passes stray 1292 byte e in
          let q = and_parts (not (belongs m cards byte)) (not (eqb (get_or p byte 0) 0)) s.1 in
          let z = zeros byte s.0 (not-true (belongs m cards byte) q.0) in
          absurd (both_ways _ (not-true (eqb (get_or p byte 0) 0) q.1) (eq-eqb (get_or p byte 0) 0 z))

-- ZERO: the bytes from one on, and below another
abbrev pub Zero : List ℕ → ℕ → ℕ → Type 0
Zero p low high = (byte : ℕ) → low ≤ byte → byte < high → get_or p byte 0 ≡ 0

module _ (p : List ℕ) where
  -- a number among them is 0
  pub zero16 : (low high : ℕ) → Zero p low high → (k : ℕ) → low ≤ k → k + 2 ≤ high → le16 p k ≡ 0
  zero16 low high z k l h = omega (arith, z k (omega arith) (omega arith), z (k + 1) (omega arith) (omega arith))

  pub zero32 : (low high : ℕ) → Zero p low high → (k : ℕ) → low ≤ k → k + 4 ≤ high → le32 p k ≡ 0
  zero32 low high z k l h =
      omega (arith, z k (omega arith) (omega arith), z (k + 1) (omega arith) (omega arith), z (k + 2) (omega arith) (omega arith), z (k + 3) (omega arith) (omega arith))

  -- the bytes of a number that is 0, and those after it
  pub zero_then16 : (k next high : ℕ) → le16 p k ≡ 0 → k + 2 ≡ next → Zero p next high → Zero p k high
  zero_then16 k next high e q z byte l u =
      let at : (j : ℕ) → byte ≡ j → get_or p j 0 ≡ 0 → get_or p byte 0 ≡ 0 = λ j s t. ap (λ i. get_or p i 0) s ∙ t in
      ⊎_elim
      (λ first. at k first (omega arith))
      (λ later. ⊎_elim (λ second. at (k + 1) second (omega arith)) (λ past. z byte (omega arith) u) (cases_eq byte (k + 1)))
      (cases_eq byte k)

  pub zero_then32 : (k next high : ℕ) → le32 p k ≡ 0 → k + 4 ≡ next → Zero p next high → Zero p k high
  zero_then32 k next high e q z =
      let last : k + 2 + 1 ≡ k + 3 = omega arith in
      zero_then16 k (k + 2) high (omega arith) refl (zero_then16 (k + 2) next high (omega (arith, ap (λ i. get_or p i 0) last)) (omega arith) z)

-- a card that is not on a sheet holds nothing
pub held_off : (f : Meaning) (M : Model) → Sound M.book → Behind f M → (card : ℕ) → is_card card ≡ true → member card M.book.chain ≡ false → held_on M card ≡ no_window
held_off f M s behind card is m =
    ⊎_elim
    (λ e. ap (λ X. held_on X card) e ∙ (s.blank card is m).1)
    (λ e. ap (λ X. held_on X card) e ∙ by_card_off M.book (outcome f M.book).held card m is)
    behind

-- every number on it is 0
pub off_numbers : (f : Meaning) (M : Model) → Sound M.book → Behind f M → (card : ℕ) → is_card card ≡ true → member card M.book.chain ≡ false → CardNumbers (λ k x. x ≡ 0) (λ k x. x ≡ 0) M card
off_numbers f M sound behind card is m =
    let blank = sound.blank card is m in
    let held = held_off f M sound behind card is m in
    record {
      next = next_none M.book.chain card m;
      setup = ap (λ j. j.setup) blank.0;
      duration = ap (λ j. j.duration) blank.0;
      opens = ap (λ w. w.early) blank.1;
      closes = ap (λ w. w.late) blank.1;
      held_opens = ap (λ w. w.early) held;
      held_closes = ap (λ w. w.late) held;
    }
