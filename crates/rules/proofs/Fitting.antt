-- A plan that fits a job book is separated, and inside the windows of its first face. Assumes nothing.
use Rattle.std.proofs.Common.{ℕ, ◌<◌, ◌≢◌, ◌⊎◌, List, [], ◌∷◌, sym, ◌∙◌, subst, inl, inr, arith}
use Rattle.changeover.specs.Rows.{Within}
use Rattle.rules.specs.Plans.{Jobs, Limits, Member, Chain, Fits, face_of, Precedes, Separated}
use Rattle.rules.specs.Theorems.{Fine, Possible}

-- x is related to each of the list
abbrev BeforeAll : (ℕ → ℕ → Type 0) → ℕ → List ℕ → Type 0
BeforeAll R x [] = Unit {0}
BeforeAll R x (y ∷ ys) = R x y × BeforeAll R x ys

-- each earlier one is related to each later one
abbrev InTurn : (ℕ → ℕ → Type 0) → List ℕ → Type 0
InTurn R [] = Unit {0}
InTurn R (x ∷ xs) = BeforeAll R x xs × InTurn R xs

-- what precedes all of a list precedes a member
before_member : (R : ℕ → ℕ → Type 0) (x y : ℕ) (ys : List ℕ) → BeforeAll R x ys → Member y ys → R x y
before_member R x y [] h m = absurd m
before_member R x y (z ∷ zs) h (inl e) = subst (R x) e h.0
before_member R x y (z ∷ zs) h (inr m) = before_member R x y zs h.1 m

-- of two different members one is related to the other
either_way : (R : ℕ → ℕ → Type 0) (xs : List ℕ) (i j : ℕ) → InTurn R xs → Member i xs → Member j xs → i ≢ j → R i j ⊎ R j i
either_way R [] i j r m k d = absurd m
either_way R (x ∷ xs) i j r (inl e) (inl f) d = absurd (d (sym e ∙ f))
either_way R (x ∷ xs) i j r (inl e) (inr k) d = inl (subst (λ y. R y j) e (before_member R x j xs r.0 k))
either_way R (x ∷ xs) i j r (inr m) (inl f) d = inr (subst (λ y. R y i) f (before_member R x i xs r.0 m))
either_way R (x ∷ xs) i j r (inr m) (inr k) d = either_way R xs i j r.1 m k d

module _ (n : ℕ) (R : ℕ → ℕ → Type 0) (through : (i k j : ℕ) → i < n → k < n → j < n → R i k → R k j → R i j) where
  -- what precedes the first of a list precedes all that it precedes
  before_more : (x y : ℕ) (zs : List ℕ) → x < n → y < n → Within n zs → R x y → BeforeAll R y zs → BeforeAll R x zs
  before_more x y [] hx hy hs r h = tt
  before_more x y (z ∷ zs) hx hy hs r h = (through x y z hx hy hs.0 r h.0, before_more x y zs hx hy hs.1 r h.1)

  -- neighbours that are related make a list in which all are
  in_turn : (xs : List ℕ) → Within n xs → Chain R xs → InTurn R xs
  in_turn [] h c = tt
  in_turn (x ∷ []) h c = (tt, tt)
  in_turn (x ∷ (y ∷ ys)) h c =
      let r : InTurn R (y ∷ ys) = in_turn (y ∷ ys) h.1 c.1 in
      ((c.0, before_more x y ys h.0 h.1.0 h.1.1 c.0 r.0), r)

module _ (J : Jobs) (limits : Limits J) where
  -- the first face keeps the limits of a face
  pub first_face_fine : Fine (face_of J)
  first_face_fine = record { few = limits.few; lasts = limits.lasts; wide = limits.wide; closes = limits.closes }

  module _ (start : ℕ → ℕ) where
    -- a job that precedes one before another precedes that other, since a way round is no shorter
    precedes_through : (i k j : ℕ) → i < J.n → k < J.n → j < J.n → Precedes (face_of J) start i k → Precedes (face_of J) start k j → Precedes (face_of J) start i j
    precedes_through i k j hi hk hj p q = omega (arith, limits.triangle i k j hi hk hj)

    -- of any two different jobs one precedes the other
    fits_separated : Fits J start → Separated (face_of J) start
    fits_separated f i j hi hj d =
        either_way (Precedes (face_of J) start) f.order i j
        (in_turn J.n (Precedes (face_of J) start) precedes_through f.order f.whole.within f.apart) (f.whole.every i hi) (f.whole.every j hj) d

    pub fits_possible : Fits J start → Possible (face_of J) start
    fits_possible f = (record { opens = f.opens; closes = f.closes }, fits_separated f)
