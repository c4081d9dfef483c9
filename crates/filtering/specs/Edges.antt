-- How edge finding goes on, from the end of late order. Assumes nothing.
use Rattle.std.specs.Prelude.{◌≡◌, ℕ, ◌<◌, Bool, true, false, ◌⊎◌, List, Some, None, Option, slice_index, slice_index_or}
use Rattle.rules.specs.Faces.{Face}
use Rattle.rules.specs.Places.{E}
use Rattle.rules.specs.Rules.{above, or_zero, after, up_to, too_much, with_job}
use Rattle.face.specs.declared.grey_tree.GreyTree.{GreyTree}
use Rattle.face.specs.GreyTrees.{HoldsBoth, Apart}

-- Q(j) and i cannot all finish by j's late end
unfoldable pub crowded : Face → (ℕ → ℕ) → ℕ → ℕ → Bool
crowded F b i j = above (E F b (with_job i (up_to F j))) (F.late j)

-- the set of some flags
abbrev pub flagged : List Bool → ℕ → Bool
flagged flags k = slice_index_or flags k false

-- the tree has the jobs of Q(j), which can finish by j's late end, white, and the jobs with a flag, all others, grey
pub record Coloured (F : Face) (b : ℕ → ℕ) (j : ℕ) (greys : List Bool) (T : GreyTree) : Type 0 where
  pub calm : too_much F b j ≡ false
  pub apart : Apart F (up_to F j) (flagged greys)
  pub holds : HoldsBoth F b (up_to F j) (flagged greys) T

-- a grey job that is crowded at j, or none where there is none
abbrev pub Blamed : Face → (ℕ → ℕ) → ℕ → (ℕ → Bool) → Option ℕ → Type 0
Blamed F b j G None = (k : ℕ) → k < F.n → G k ≡ true → crowded F b k j ≡ false
Blamed F b j G (Some i) = (i < F.n) × (G i ≡ true) × (crowded F b i j ≡ true)

-- job k is left as it was, or was grey, is crowded at j and has its new early end
abbrev pub Moved : Face → (ℕ → ℕ) → ℕ → List Bool → List ℕ → List Bool → List ℕ → ℕ → Type 0
Moved F b j greys out greys' out' k =
    ((flagged greys' k ≡ flagged greys k) × (slice_index out' k ≡ slice_index out k))
    ⊎ ((flagged greys k ≡ true) × (flagged greys' k ≡ false) × (crowded F b k j ≡ true) × (slice_index out' k ≡ or_zero (after F b (up_to F j) k)))
