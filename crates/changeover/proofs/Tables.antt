-- What holds of every table of gaps, and how one is filled row by row. Assumes nothing.
use Rattle.std.proofs.Common.{◌≡◌, ℕ, ◌+◌, ◌*◌, ◌/◌, ◌%◌, ◌<◌, ◌≤◌, min, ◌&&◌, eqb, ltb, List, get_or, sym, ap, ◌∙◌, ⊎_elim, arith}
use Rattle.std.proofs.lemmas.Nat.{div-add-mod', div-mul-add, mod-mul-add}
use Rattle.std.proofs.lemmas.Bool.{cond_both, and_parts, and_from, eqb-true, eq-eqb, lt-ltb, both_ways, cases_eq}
use Rattle.changeover.specs.declared.gaps.Gaps.{Gaps}
use Rattle.changeover.specs.Table.{among, gap_of, with_gap}

pub gap_small : (g : Gaps) (i j : ℕ) → gap_of g i j ≤ 12000
gap_small g i j = cond_both (among g.jobs i j) _ 0 (λ y. y ≤ 12000) (λ _. g.small (32 * i + j)) (λ _. omega arith)

-- the number at k is written at its row and column: so all up to it are
pub rows_more : (m n k x : ℕ) (numbers : List ℕ) (before after : ℕ → ℕ → ℕ) → n ≡ m → x ≡ get_or numbers k 0 → ((a b : ℕ) → after a b ≡ with_gap n before (k / m) (k % m) x a b) → ((i j : ℕ) → i < m → j < m → m * i + j < k → before i j ≡ min (get_or numbers (m * i + j) 0) 12000) → (i j : ℕ) → i < m → j < m → m * i + j < k + 1 → after i j ≡ min (get_or numbers (m * i + j) 0) 12000
rows_more m n k x numbers before after same_jobs is written old i j hi hj h =
    written i j
    ∙ cond_both (among n (k / m) (k % m) && (eqb i (k / m) && eqb j (k % m))) (min x 12000) (before i j) (λ (y : ℕ). y ≡ min (get_or numbers (m * i + j) 0) 12000)
    (λ t.
    let here = and_parts (eqb i (k / m)) (eqb j (k % m)) (and_parts (among n (k / m) (k % m)) (eqb i (k / m) && eqb j (k % m)) t).1 in
    let row = eqb-true i (k / m) here.0 in
    let at : k ≡ m * i + j = omega (arith, div-add-mod' k m, ap (λ (n : ℕ). n * m) row, eqb-true j (k % m) here.1) in
    ap (λ (n : ℕ). min n 12000) (is ∙ ap (λ (n : ℕ). get_or numbers n 0) at))
    (λ f.
    ⊎_elim
    (λ same.
    let flat : i * m + j ≡ k = omega arith in
    let row : i ≡ k / m = sym (div-mul-add i m j hj) ∙ ap (λ (n : ℕ). n / m) flat in
    let col : j ≡ k % m = sym (mod-mul-add i m j hj) ∙ ap (λ (n : ℕ). n % m) flat in
    let inside = and_from (ltb (k / m) n) (ltb (k % m) n) (lt-ltb (k / m) n (omega arith)) (lt-ltb (k % m) n (omega arith)) in
    absurd (both_ways _ f (and_from _ _ inside (and_from _ _ (eq-eqb i (k / m) row) (eq-eqb j (k % m) col)))))
    (λ other. old i j hi hj (omega arith))
    (cases_eq (m * i + j) k))
