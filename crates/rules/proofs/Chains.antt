-- Chains of cards, and their cards in rising order. Assumes nothing.
use Rattle.std.proofs.Common.{◌≡◌, ℕ, zero, suc, ◌+◌, ◌-◌, ◌<◌, ◌≤◌, true, false, not, ◌&&◌, ◌||◌, eqb, leb, ◌≢◌, List, [], ◌∷◌, ◌++◌, length, get_or, sym, refl, ap, ◌∙◌, ⊎_elim, arith}
use Rattle.std.proofs.lemmas.Bool.{and_parts, and_from, or_cases, or_parts, or_from, or_left, eq-eqb, both_ways, not-true, not_from_false, leb-true, le-leb, eqb-true, eqb-false, ne_eqb, cases_eq, cases_lt, cond_both, true≢false}
use Rattle.std.proofs.lemmas.List.{length_push, get_or_push, get_or_append_left}
use Rattle.rules.specs.Cards.{member, is_card, chained, without, rising_to}

-- a card is a number from 1 to 32
pub card_within : (card : ℕ) → is_card card ≡ true → (1 ≤ card) × (card ≤ 32)
card_within card e = let p = and_parts (leb 1 card) (leb card 32) e in (leb-true 1 card p.0, leb-true card 32 p.1)

pub within_card : (card : ℕ) → 1 ≤ card → card ≤ 32 → is_card card ≡ true
within_card card a b = and_from (leb 1 card) (leb card 32) (le-leb 1 card a) (le-leb card 32 b)

-- cards of a list with one more at its end
pub member_push : (x y : ℕ) (xs : List ℕ) → member x (xs ++ y ∷ []) ≡ (member x xs || eqb x y)
member_push x y [] = elim (eqb x y) as (λ b. (b || false) ≡ (false || b)) [ true ↦ refl | false ↦ refl ]
member_push x y (z ∷ xs) =
    elim (eqb x z) as (λ b. (b || member x (xs ++ y ∷ [])) ≡ ((b || member x xs) || eqb x y)) [ true ↦ refl | false ↦ member_push x y xs ]

-- the parts of a chain's test
pub record Parts (k : ℕ) (ks : List ℕ) : Type 0 where
  pub card : is_card k ≡ true
  pub alone : member k ks ≡ false
  pub rest : chained ks ≡ true

pub parts : (k : ℕ) (ks : List ℕ) → chained (k ∷ ks) ≡ true → Parts k ks
parts k ks h =
    let p = and_parts (is_card k) (not (member k ks) && chained ks) h in
    let r = and_parts (not (member k ks)) (chained ks) p.1 in record { card = p.0; alone = not-true (member k ks) r.0; rest = r.1 }

pub from_parts : (k : ℕ) (ks : List ℕ) → is_card k ≡ true → member k ks ≡ false → chained ks ≡ true → chained (k ∷ ks) ≡ true
from_parts k ks a m c =
    and_from (is_card k) (not (member k ks) && chained ks) a (and_from (not (member k ks)) (chained ks) (not_from_false (member k ks) m) c)

-- what stands in a chain is a card
pub member_card : (x : ℕ) (ks : List ℕ) → chained ks ≡ true → member x ks ≡ true → is_card x ≡ true
member_card x [] c m = absurd (true≢false (sym m))
member_card x (k ∷ ks) c m =
    ⊎_elim (λ e. ap is_card (eqb-true x k e) ∙ (parts k ks c).card) (member_card x ks (parts k ks c).rest) (or_cases (eqb x k) (member x ks) m)

-- a chain takes a card that it does not have
pub chained_push : (ks : List ℕ) (y : ℕ) → chained ks ≡ true → is_card y ≡ true → member y ks ≡ false → chained (ks ++ y ∷ []) ≡ true
chained_push [] y c a m = from_parts y [] a refl refl
chained_push (k ∷ ks) y c a m =
    let p = parts k ks c in
    let q = or_parts (eqb y k) (member y ks) m in
    let other : eqb k y ≡ false = ne_eqb k y (λ e. eqb-false y k q.0 (sym e)) in
    from_parts k (ks ++ y ∷ []) p.card (member_push k y ks ∙ or_from (member k ks) (eqb k y) p.alone other) (chained_push ks y p.rest a q.1)

-- without a card, that card is gone, and every other stays
pub without_same : (x : ℕ) (ks : List ℕ) → member x (without x ks) ≡ false
without_same x [] = refl
without_same x (k ∷ ks) =
    cond_both (eqb k x) (without x ks) (k ∷ without x ks) (λ l. member x l ≡ false)
    (λ _. without_same x ks)
    (λ e. or_from (eqb x k) (member x (without x ks)) (ne_eqb x k (λ s. eqb-false k x e (sym s))) (without_same x ks))

pub without_other : (x y : ℕ) (ks : List ℕ) → y ≢ x → member y (without x ks) ≡ member y ks
without_other x y [] d = refl
without_other x y (k ∷ ks) d =
    cond_both (eqb k x) (without x ks) (k ∷ without x ks) (λ l. member y l ≡ member y (k ∷ ks))
    (λ e. let z : eqb y k ≡ false = ne_eqb y k (λ s. d (s ∙ eqb-true k x e)) in rw z (without_other x y ks d))
    (λ _. ap (λ b. eqb y k || b) (without_other x y ks d))

-- so a chain stays one
pub chained_without : (x : ℕ) (ks : List ℕ) → chained ks ≡ true → chained (without x ks) ≡ true
chained_without x [] c = refl
chained_without x (k ∷ ks) c =
    let p = parts k ks c in
    cond_both (eqb k x) (without x ks) (k ∷ without x ks) (λ l. chained l ≡ true)
    (λ _. chained_without x ks p.rest)
    (λ e. from_parts k (without x ks) p.card (without_other x k ks (eqb-false k x e) ∙ p.alone) (chained_without x ks p.rest))

-- a card that is not there leaves nothing out, and a chain has each card once
without_none : (x : ℕ) (ks : List ℕ) → member x ks ≡ false → without x ks ≡ ks
without_none x [] m = refl
without_none x (k ∷ ks) m =
    let q = or_parts (eqb x k) (member x ks) m in
    let other : eqb k x ≡ false = ne_eqb k x (λ e. eqb-false x k q.0 (sym e)) in
    rw other (ap (λ l. k ∷ l) (without_none x ks q.1))

without_one : (x : ℕ) (ks : List ℕ) → chained ks ≡ true → length ks ≤ length (without x ks) + 1
without_one x [] c = omega arith
without_one x (k ∷ ks) c =
    let p = parts k ks c in
    cond_both (eqb k x) (without x ks) (k ∷ without x ks) (λ l. length (k ∷ ks) ≤ length l + 1)
    (λ e. omega (arith, ap length (without_none x ks (ap (λ y. member y ks) (sym (eqb-true k x e)) ∙ p.alone))))
    (λ _. omega (arith, without_one x ks p.rest))

-- so of cards up to n it has at most n
few_cards : (n : ℕ) (ks : List ℕ) → chained ks ≡ true → ((x : ℕ) → member x ks ≡ true → x ≤ n) → length ks ≤ n
few_cards zero [] c h = omega arith
few_cards zero (k ∷ ks) c h = absurd (omega (arith, card_within k (parts k ks c).card, h k (or_left (eqb k k) (member k ks) (eq-eqb k k refl))))
few_cards (suc n) ks c h =
    let gone = without_same (suc n) ks in
    omega (
      arith,
      without_one (suc n) ks c,
      few_cards n (without (suc n) ks) (chained_without (suc n) ks c)
          (λ x m.
          ⊎_elim
          (λ e. absurd (both_ways _ gone (ap (λ y. member y (without (suc n) ks)) (sym e) ∙ m)))
          (λ ne. omega (arith, h x (sym (without_other (suc n) x ks ne) ∙ m)))
          (cases_eq x (suc n))),
    )

pub chain_few : (ks : List ℕ) → chained ks ≡ true → length ks ≤ 32
chain_few ks c = few_cards 32 ks c (λ x m. (card_within x (member_card x ks c m)).1)

module _ (chain : List ℕ) where
  -- up to k there are at most k
  pub rising_few : (k : ℕ) → length (rising_to chain k) ≤ k
  unfolding rising_to
  rising_few zero = omega arith
  rising_few (suc k) =
      let few = rising_few k in
      cond_both (member (suc k) chain) (rising_to chain k ++ suc k ∷ []) (rising_to chain k) (λ l. length l ≤ suc k)
      (λ _. omega (arith, length_push (rising_to chain k) (suc k)))
      (λ _. omega arith)

  -- with one card more, each stays at its place
  rising_stays : (k j : ℕ) → j < length (rising_to chain k) → (j < length (rising_to chain (suc k))) × (get_or (rising_to chain (suc k)) j 0 ≡ get_or (rising_to chain k) j 0)
  unfolding rising_to
  rising_stays k j h =
      cond_both (member (suc k) chain) (rising_to chain k ++ suc k ∷ []) (rising_to chain k) (λ l. (j < length l) × (get_or l j 0 ≡ get_or (rising_to chain k) j 0))
      (λ _. (omega (arith, length_push (rising_to chain k) (suc k)), get_or_append_left (rising_to chain k) (suc k ∷ []) 0 j h))
      (λ _. (h, refl))

  -- and a new one comes last
  rising_last : (k : ℕ) → member (suc k) chain ≡ true → (length (rising_to chain (suc k)) ≡ length (rising_to chain k) + 1) × (get_or (rising_to chain (suc k)) (length (rising_to chain k)) 0 ≡ suc k)
  unfolding rising_to
  rising_last k e = rw e (length_push (rising_to chain k) (suc k), get_or_push (rising_to chain k) (suc k) 0 (length (rising_to chain k)) refl)

  rising_new : (k j : ℕ) → j < length (rising_to chain (suc k)) → length (rising_to chain k) ≤ j → (member (suc k) chain ≡ true) × (length (rising_to chain k) ≡ j) × (get_or (rising_to chain (suc k)) j 0 ≡ suc k)
  unfolding rising_to
  rising_new k j h past =
      cond_both (member (suc k) chain) (rising_to chain k ++ suc k ∷ []) (rising_to chain k) (λ l. j < length l → (member (suc k) chain ≡ true) × (length (rising_to chain k) ≡ j) × (get_or l j 0 ≡ suc k))
      (λ e h.
      let same : length (rising_to chain k) ≡ j = omega (arith, length_push (rising_to chain k) (suc k)) in
      (e, same, get_or_push (rising_to chain k) (suc k) 0 j same))
      (λ _ h. absurd (omega arith))
      h

  -- the card at place j among those up to k
  pub record Placed (k j card : ℕ) : Type 0 where
    pub there : member card chain ≡ true
    pub low : 1 ≤ card
    pub high : card ≤ k
    -- as many cards are lower as stand before it
    pub place : length (rising_to chain (card - 1)) ≡ j

  pub placed : (k j : ℕ) → j < length (rising_to chain k) → Placed k j (get_or (rising_to chain k) j 0)
  placed zero j h = absurd (omega (arith, rising_few 0))
  placed (suc k) j h =
      ⊎_elim
      (λ lt.
      let p = placed k j lt in
      rw (rising_stays k j lt).1 (record { there = p.there; low = p.low; high = omega arith; place = p.place }))
      (λ past.
      let new = rising_new k j h past in
      let before : suc k - 1 ≡ k = omega arith in
      rw new.2 (record { there = new.0; low = omega arith; high = omega arith; place = ap (λ x. length (rising_to chain x)) before ∙ new.1 }))
      (cases_lt j (length (rising_to chain k)))

  -- a card of the chain is found after the lower ones
  pub record Found (k card : ℕ) : Type 0 where
    pub below : length (rising_to chain (card - 1)) < length (rising_to chain k)
    pub here : get_or (rising_to chain k) (length (rising_to chain (card - 1))) 0 ≡ card

  pub found : (k card : ℕ) → member card chain ≡ true → 1 ≤ card → card ≤ k → Found k card
  found zero card m low high = absurd (omega arith)
  found (suc k) card m low high =
      ⊎_elim
      (λ e.
      let before : card - 1 ≡ k = omega arith in
      let same : length (rising_to chain (card - 1)) ≡ length (rising_to chain k) = ap (λ x. length (rising_to chain x)) before in
      let last = rising_last k (ap (λ x. member x chain) (sym e) ∙ m) in record {
        below = omega (arith, last.0);
        here = ap (λ i. get_or (rising_to chain (suc k)) i 0) same ∙ (last.1 ∙ sym e);
      })
      (λ ne.
      let f = found k card m low (omega arith) in
      let stays = rising_stays k (length (rising_to chain (card - 1))) f.below in record { below = stays.0; here = stays.1 ∙ f.here })
      (cases_eq card (suc k))

  -- the cards rise
  pub rises : (k i j : ℕ) → i < j → j < length (rising_to chain k) → get_or (rising_to chain k) i 0 < get_or (rising_to chain k) j 0
  rises zero i j lt h = absurd (omega (arith, rising_few 0))
  rises (suc k) i j lt h =
      ⊎_elim
      (λ old.
      let g = rises k i j lt old in omega (arith, (rising_stays k i (omega arith)).1, (rising_stays k j old).1))
      (λ past.
      let new = rising_new k j h past in
      let low : i < length (rising_to chain k) = omega (arith, new.1) in
      omega (arith, new.2, (rising_stays k i low).1, (placed k i low).high))
      (cases_lt j (length (rising_to chain k)))
