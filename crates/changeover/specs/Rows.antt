-- Rows of different jobs, and the law that the numbers of a bound keep. Assumes nothing.
-- Jobs are counted from 0 in card order; a gap is a function from two jobs to minutes.
use Rattle.std.specs.Prelude.{◌≡◌, ℕ, ◌+◌, ◌<◌, ◌≤◌, ◌≢◌, List, [], ◌∷◌, length}

-- x is none of the jobs of the row
abbrev pub Apart : ℕ → List ℕ → Type 0
Apart x [] = Unit {0}
Apart x (y ∷ ys) = (x ≢ y) × Apart x ys

-- no job stands twice in the row
abbrev pub Different : List ℕ → Type 0
Different [] = Unit {0}
Different (x ∷ xs) = Apart x xs × Different xs

-- each job of the row is one of the n
abbrev pub Within : ℕ → List ℕ → Type 0
Within n [] = Unit {0}
Within n (x ∷ xs) = (x < n) × Within n xs

-- the gaps from x on through the row, added up
abbrev pub gaps_from : (ℕ → ℕ → ℕ) → ℕ → List ℕ → ℕ
gaps_from gap x [] = 0
gaps_from gap x (y ∷ ys) = gap x y + gaps_from gap y ys

-- the gaps between neighbours of the row, added up
abbrev pub gaps_along : (ℕ → ℕ → ℕ) → List ℕ → ℕ
gaps_along gap [] = 0
gaps_along gap (x ∷ xs) = gaps_from gap x xs

-- a row of e + 1 different jobs, of the n that there are
pub record Row (n e : ℕ) (row : List ℕ) : Type 0 where
  pub within : Within n row
  pub different : Different row
  pub long : length row ≡ e + 1

-- THE LAW of numbers b, against n jobs and the gaps between them
pub record Lawful (n : ℕ) (gap : ℕ → ℕ → ℕ) (b : ℕ → ℕ) : Type 0 where
  -- b is 0 from b(n) on
  pub past : (e : ℕ) → n ≤ e → b e ≡ 0
  -- in every row of e + 1 different jobs the gaps between neighbours add up to at least b(e)
  pub under : (e : ℕ) (row : List ℕ) → Row n e row → b e ≤ gaps_along gap row
