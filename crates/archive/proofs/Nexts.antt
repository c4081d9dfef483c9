-- The card that follows another. Assumes nothing.
use Rattle.std.proofs.Common.{◌≡◌, ℕ, suc, ◌+◌, true, false, cond, not, eqb, ltb, List, [], ◌∷◌, length, get_or, Some, None, Option, refl, ap, ◌∙◌, ⊎_elim, arith}
use Rattle.std.proofs.lemmas.Bool.{lt-ltb, le-ltb, cases_lt}
use Rattle.std.specs.List.{position, position_or_len}
use Rattle.rules.specs.Pages.{first_of, next_in}

pub first_is : (cards : List ℕ) → get_or cards 0 0 ≡ first_of cards
first_is [] = refl
first_is (x ∷ xs) = refl

-- what stands behind a place; 0 where there is no place
abbrev pub behind : List ℕ → Option ℕ → ℕ
behind cards None = 0
behind cards (Some i) = get_or cards (i + 1) 0

-- one place further on, in a list that is one longer
further : (x : ℕ) (xs : List ℕ) (i n : ℕ) → behind (x ∷ xs) (cond (ltb (1 + i) (suc n)) (Some (1 + i)) None) ≡ behind xs (cond (ltb i n) (Some i) None)
further x xs i n =
    ⊎_elim
    (λ h. rw (lt-ltb i n h, lt-ltb (1 + i) (suc n) (omega arith)) (ap (λ k. get_or (x ∷ xs) k 0) (let e : 1 + i + 1 ≡ suc (i + 1) = omega arith in e)))
    (λ h. rw (le-ltb i n h, le-ltb (1 + i) (suc n) (omega arith)))
    (cases_lt i n)

-- behind the place of a card stands the one that follows it
pub next_is : (cards : List ℕ) (card : ℕ) → behind cards (position (λ x. eqb x card) cards) ≡ next_in cards card
next_is [] card = refl
next_is (x ∷ xs) card =
    let rest = position_or_len (λ y. eqb y card) xs in
    let first : ltb 0 (suc (length xs)) ≡ true = lt-ltb 0 (suc (length xs)) (omega arith) in
    elim (eqb x card) as (λ b. behind (x ∷ xs) (cond (ltb (cond (not b) (1 + rest) 0) (suc (length xs))) (Some (cond (not b) (1 + rest) 0)) None) ≡ cond b (first_of xs) (next_in xs card)) [
      | true ↦ rw first (first_is xs)
      | false ↦ further x xs rest (length xs) ∙ next_is xs card
    ]
