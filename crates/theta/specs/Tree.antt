-- A tree of 63 nodes in a list: the root at 0, the children of i at 2i + 1 and 2i + 2, the leaf of place p at 31 + p. Assumes nothing.
use Rattle.std.specs.Prelude.{◌≡◌, ℕ, zero, suc, ◌+◌, ◌-◌, ◌*◌, ◌/◌, ◌≤◌, cond, List, [], ◌∷◌, ◌++◌, map, length, replicate, ◌==◌, ◌≢◌, nat_le, slice_index_or, slice_set}
use Rattle.std.specs.List.{range_with_len}

-- node i is the join of its children again
abbrev pub rejoined : {N : Type 0} → N → (N → N → N) → List N → ℕ → List N
rejoined none join xs i = slice_set xs i (join (slice_index_or xs (2 * i + 1) none) (slice_index_or xs (2 * i + 2) none))

-- the node k levels above the leaf of place p
unfoldable pub above : ℕ → ℕ → ℕ
above zero p = 31 + p
above (suc k) p = (above k p - 1) / 2

-- the k nodes above the leaf of place p are joined again, from the lowest up
unfoldable pub climbed : {N : Type 0} → N → (N → N → N) → List N → ℕ → ℕ → List N
climbed none join xs p zero = xs
climbed none join xs p (suc k) = rejoined none join (climbed none join xs p k) (above (suc k) p)

-- the leaf of place p is x, and the five nodes above it follow
unfoldable pub replaced : {N : Type 0} → N → (N → N → N) → List N → ℕ → N → List N
replaced none join xs p x = climbed none join (slice_set xs (31 + p) x) p 5

-- the same of any nodes: they stay as they are where they are not 63, or there is no such place
abbrev pub stepped : {N : Type 0} → N → (N → N → N) → List N → ℕ → N → List N
stepped none join xs p x = cond (length xs == 63) (cond (nat_le p 31) (replaced none join xs p x) xs) xs

-- 63 empty nodes
unfoldable pub cleared : {N : Type 0} → N → List N
cleared none = replicate 63 none

-- any nodes once they are cleared: they stay as they are where they are not 63
abbrev pub emptied : {N : Type 0} → N → List N → List N
emptied none xs = cond (length xs == 63) (cleared none) xs

-- only the leaf of a place and the five nodes above it differ
abbrev pub Elsewhere : {N : Type 0} → N → List N → List N → ℕ → Type 0
Elsewhere none before after place = (i : ℕ) → ((k : ℕ) → k ≤ 5 → i ≢ above k place) → slice_index_or after i none ≡ slice_index_or before i none

-- the joins of neighbours
unfoldable pub paired : {N : Type 0} → (N → N → N) → List N → List N
paired join [] = []
paired join (x ∷ []) = []
paired join (x ∷ (y ∷ zs)) = join x y ∷ paired join zs

-- the level k above the leaves
unfoldable pub level : {N : Type 0} → (N → N → N) → List N → ℕ → List N
level join leaves zero = leaves
level join leaves (suc k) = paired join (level join leaves k)

-- the tree of 32 leaves, worked out afresh: the root, then each level down to the leaves
unfoldable pub grown : {N : Type 0} → (N → N → N) → List N → List N
grown join leaves = level join leaves 5 ++ (level join leaves 4 ++ (level join leaves 3 ++ (level join leaves 2 ++ (level join leaves 1 ++ leaves))))

-- what a function gives at the places 0 to 31
unfoldable pub row : {N : Type 0} → (ℕ → N) → List N
row f = map f (range_with_len 0 32)
