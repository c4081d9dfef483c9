-- Plans: which starts fit a job book, and what the rules know of them. Assumes nothing.
use Rattle.std.specs.Prelude.{◌≡◌, ℕ, ◌+◌, ◌<◌, ◌≤◌, ◌≢◌, ◌⊎◌, List, [], ◌∷◌}
use Rattle.changeover.specs.Rows.{Within, Different}
use Rattle.rules.specs.Faces.{Face, horizon}

-- the jobs of a book as posted, and the changeover between neighbours of a plan
pub record Jobs : Type 0 where
  pub n : ℕ
  pub early : ℕ → ℕ
  pub late : ℕ → ℕ
  pub duration : ℕ → ℕ
  pub changeover : ℕ → ℕ → ℕ

-- the limits that the questions of a sheet set
pub record Limits (J : Jobs) : Type 0 where
  pub few : J.n ≤ 32
  pub lasts : (j : ℕ) → j < J.n → (1 ≤ J.duration j) × (J.duration j ≤ 100000)
  pub wide : (j : ℕ) → j < J.n → J.early j + J.duration j ≤ J.late j
  pub closes : (j : ℕ) → j < J.n → J.late j ≤ horizon
  pub triangle : (i k j : ℕ) → i < J.n → k < J.n → j < J.n → J.changeover i j ≤ J.changeover i k + J.changeover k j

-- x stands in the list
abbrev pub Member : ℕ → List ℕ → Type 0
Member x [] = ⊥
Member x (y ∷ ys) = (y ≡ x) ⊎ Member x ys

-- a list that holds each of the n jobs once, and nothing else
pub record Order (n : ℕ) (order : List ℕ) : Type 0 where
  pub within : Within n order
  pub every : (j : ℕ) → j < n → Member j order
  pub once : Different order

-- each job of the list is followed by one that may follow it
abbrev pub Chain : (ℕ → ℕ → Type 0) → List ℕ → Type 0
Chain R [] = Unit {0}
Chain R (x ∷ []) = Unit {0}
Chain R (x ∷ (y ∷ ys)) = R x y × Chain R (y ∷ ys)

-- THE PLAN FITS: no job starts before its posted window or finishes after it, and there is an order of the jobs in which
-- each starts at or after its predecessor's finish plus the changeover
pub record Fits (J : Jobs) (start : ℕ → ℕ) : Type 0 where
  pub opens : (j : ℕ) → j < J.n → J.early j ≤ start j
  pub closes : (j : ℕ) → j < J.n → start j + J.duration j ≤ J.late j
  pub order : List ℕ
  pub whole : Order J.n order
  pub apart : Chain (λ i j. start i + J.duration i + J.changeover i j ≤ start j) order

-- the gap that rules and bounds read: today the changeover itself
abbrev pub gap_between : Jobs → ℕ → ℕ → ℕ
gap_between J = J.changeover

-- the first face of a job book
abbrev pub face_of : Jobs → Face
face_of J = record { n = J.n; early = J.early; late = J.late; duration = J.duration; gap = gap_between J }

-- a plan stays inside the windows of a face
pub record Inside (F : Face) (start : ℕ → ℕ) : Type 0 where
  pub opens : (j : ℕ) → j < F.n → F.early j ≤ start j
  pub closes : (j : ℕ) → j < F.n → start j + F.duration j ≤ F.late j

-- i finishes, and its gap later j starts
abbrev pub Precedes : Face → (ℕ → ℕ) → ℕ → ℕ → Type 0
Precedes F start i j = start i + F.duration i + F.gap i j ≤ start j

-- of any two different jobs one precedes the other
abbrev pub Separated : Face → (ℕ → ℕ) → Type 0
Separated F start = (i j : ℕ) → i < F.n → j < F.n → i ≢ j → Precedes F start i j ⊎ Precedes F start j i
