-- The numbers of bounds, in words. Assumes nothing.
use Rattle.std.specs.Prelude.{ℕ, List, ◌∷◌, ◌++◌, codes}
use Rattle.std.specs.Fmt.{decimal}
use Rattle.std.specs.List.{flat_map, range_with_len}
use Rattle.changeover.specs.Kinds.{zeros, least_gap, multiples, shortest_walk, larger}

-- a name, and b(0), b(1), .. for n jobs, each after a space
abbrev pub row_text : List ℕ → (ℕ → ℕ) → ℕ → List ℕ
row_text name b n = name ++ flat_map (λ e. 32 ∷ decimal (b e)) (range_with_len 0 n)

-- every kind of bound for n jobs and the gaps between them, each on a line of its own
abbrev pub bounds_text : ℕ → (ℕ → ℕ → ℕ) → List ℕ
bounds_text n gap =
    let least : ℕ → ℕ = multiples n (least_gap n gap) in
    row_text (codes "none") zeros n
    ++ 10 ∷ (row_text (codes "least") least n
    ++ 10 ∷ (row_text (codes "walk") (shortest_walk n gap) n
    ++ 10 ∷ row_text (codes "larger") (larger least (shortest_walk n gap)) n))
