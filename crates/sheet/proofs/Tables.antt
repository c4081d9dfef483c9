-- Tables of gaps that are written row by row. Assumes nothing.
use Rattle.std.proofs.Common.{◌≡◌, ℕ, ◌+◌, ◌<◌, min, cond, ◌&&◌, eqb, ltb, ◌≢◌, sym, refl, ap, ◌∙◌, ⊎_elim, arith}
use Rattle.std.proofs.lemmas.Bool.{cond_both, cond-false, and_parts, and_from, and_left, and_right, eqb-true, eq-eqb, ne_eqb, lt-ltb, ltb-true, both_ways, cases_eq}
use Rattle.changeover.specs.declared.gaps.Gaps.{Gaps}
use Rattle.changeover.specs.Table.{jobs_of, gap_of, among, with_gap}

-- one gap more of a row is written
pub row_more : (g : Gaps) (new : ℕ → ℕ → ℕ) (i j x : ℕ) (wanted : ℕ → ℕ) → i < jobs_of g → j < jobs_of g → min x 12000 ≡ wanted j → ((a b : ℕ) → new a b ≡ with_gap (jobs_of g) (gap_of g) i j x a b) → ((b : ℕ) → b < j → gap_of g i b ≡ wanted b) → (b : ℕ) → b < j + 1 → new i b ≡ wanted b
row_more g new i j x wanted hi hj is written old b hb =
    written i b
    ∙ cond_both (among (jobs_of g) i j && (eqb i i && eqb b j)) (min x 12000) (gap_of g i b) (λ (y : ℕ). y ≡ wanted b)
    (λ t. is ∙ ap wanted (sym (eqb-true b j (and_parts (eqb i i) (eqb b j) (and_parts (among (jobs_of g) i j) (eqb i i && eqb b j) t).1).1)))
    (λ off.
    ⊎_elim
    (λ e.
    absurd (both_ways _ off (and_from (among (jobs_of g) i j) (eqb i i && eqb b j) (and_from (ltb i (jobs_of g)) (ltb j (jobs_of g)) (lt-ltb i (jobs_of g) hi) (lt-ltb j (jobs_of g) hj)) (and_from (eqb i i) (eqb b j) (eq-eqb i i refl) (eq-eqb b j e)))))
    (λ ne. old b (omega arith))
    (cases_eq b j))

-- the other rows are kept
pub rows_kept : (g : Gaps) (new : ℕ → ℕ → ℕ) (i j x : ℕ) → ((a b : ℕ) → new a b ≡ with_gap (jobs_of g) (gap_of g) i j x a b) → (a b : ℕ) → a ≢ i → new a b ≡ gap_of g a b
rows_kept g new i j x written a b ne =
    written a b ∙ cond-false (among (jobs_of g) i j && (eqb a i && eqb b j)) (min x 12000) (gap_of g a b) (and_right (among (jobs_of g) i j) (eqb a i && eqb b j) (and_left (eqb a i) (eqb b j) (ne_eqb a i ne)))

-- a table of which every gap between jobs is written
pub rows_all : (g : Gaps) (n : ℕ) (wanted : ℕ → ℕ → ℕ) → jobs_of g ≡ n → ((a b : ℕ) → a < n → b < n → gap_of g a b ≡ wanted a b) → (a b : ℕ) → gap_of g a b ≡ cond (among n a b) (wanted a b) 0
rows_all g n wanted same all a b =
    cond_both (among n a b) (wanted a b) 0 (λ (y : ℕ). gap_of g a b ≡ y)
    (λ t. let p = and_parts (ltb a n) (ltb b n) t in all a b (ltb-true a n p.0) (ltb-true b n p.1))
    (λ f. cond-false (among (jobs_of g) a b) _ 0 (ap (λ (k : ℕ). among k a b) same ∙ f))
