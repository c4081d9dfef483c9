-- Parts that are filled from the front, one write after another. Assumes nothing.
use Rattle.std.proofs.Common.{◌≡◌, ℕ, zero, suc, ◌+◌, ◌<◌, ◌≤◌, List, [], ◌∷◌, ◌++◌, length, get_or, take, sym, refl, ap, ◌∙◌, ap₂, zero-le, zero-add, add-one, arith, take_all}
use borrow.Rule.Slice.PartMut.{put_mid}
use lib.Seq.{paste}
use Rattle.std.proofs.lemmas.List.Edits.{paste_none, paste-paste, paste_all}
use Rattle.std.proofs.lemmas.List.{length-append, drop_all, append-nil, take_more, flat_map_more}
use Rattle.std.specs.List.{flat_map}
use Rattle.std.proofs.lemmas.Slice.{put_mid-paste}
use Rattle.rules.specs.Models.{Model}
use Rattle.rules.specs.Pages.{bytes16, joined, record_bytes}

-- a part that was `old` begins with xs now, and the rest is as it was
pub record Front (old part xs : List ℕ) : Type 0 where
  pub is : part ≡ paste old 0 xs (length xs)

-- nothing is written yet
pub front_none : (old : List ℕ) → Front old old []
front_none old = record { is = paste_none old 0 [] }

-- a write right behind what is written
pub front_more : {old part after xs : List ℕ} (n m : ℕ) (ys : List ℕ) → n ≡ length xs → m ≡ length ys → Front old part xs → after ≡ paste part n ys m → Front old after (xs ++ ys)
front_more {old} {part} {after} {xs} n m ys first second front written = record {
  is = written
      ∙ (ap (λ z. paste z n ys m) front.is
      ∙ (ap (λ k. paste (paste old 0 xs (length xs)) k ys m) (first ∙ sym (zero-add (length xs)))
      ∙ (paste-paste old 0 xs ys (length xs) m refl second zero-le ∙ ap (paste old 0 (xs ++ ys)) (ap (λ k. length xs + k) second ∙ sym (length-append xs ys)))));
}

-- a part of m bytes right behind what is written, which came to hold ys
pub front_part : {old part xs given ys : List ℕ} (n m : ℕ) → n ≡ length xs → m ≡ length ys → Front old part xs → given ≡ ys → Front old (put_mid n m part given) (xs ++ ys)
front_part {old} {part} {xs} {given} {ys} n m first second front e =
    front_more n m ys first second front (put_mid-paste n m part given ys m e refl second)

-- all of it is written
pub front_all : {old part xs : List ℕ} → Front old part xs → length old ≡ length xs → part ≡ xs
front_all {old} {part} {xs} front long =
    let past : length old ≤ 0 + length xs = omega arith in
    front.is ∙ (paste_all old 0 xs (length xs) refl ∙ rw (drop_all (0 + length xs) old past, append-nil xs))

-- pieces, one after another
module _ (piece : ℕ → List ℕ) (pieces : List (List ℕ)) where
  joined_front : (n : ℕ) → n ≤ length pieces → ((k : ℕ) → k < n → get_or pieces k [] ≡ piece k) → flat_map (λ xs. xs) (take n pieces) ≡ joined piece n
  unfolding joined
  joined_front zero h each = refl
  joined_front (suc n) h each =
      let more : take (suc n) pieces ≡ take n pieces ++ get_or pieces n [] ∷ [] = rw (← add-one) (take_more pieces n [] (omega arith)) in
      ap (flat_map (λ (xs : List ℕ). xs)) more
      ∙ sym (flat_map_more (λ (xs : List ℕ). xs) [] (take n pieces) (get_or pieces n []))
      ∙ ap₂ (λ (xs ys : List ℕ). xs ++ ys) (joined_front n (omega arith) (λ k l. each k (omega arith))) (each n (omega arith))

  pub joined_is : (n : ℕ) → length pieces ≡ n → ((k : ℕ) → k < n → get_or pieces k [] ≡ piece k) → flat_map (λ xs. xs) pieces ≡ joined piece n
  joined_is n long each = ap (flat_map (λ (xs : List ℕ). xs)) (sym (take_all n pieces (omega arith))) ∙ joined_front n (omega arith) each

-- the pieces of a page: changeovers, and records by card
abbrev pub changeover_piece : Model → ℕ → List ℕ
changeover_piece M k = bytes16 (get_or M.book.changeovers k 0)

abbrev pub record_piece : Model → ℕ → List ℕ
record_piece M k = record_bytes M (k + 1)
