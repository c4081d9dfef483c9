-- The m × m changeovers of a page, row by row. Assumes nothing.
use Rattle.std.proofs.Common.{◌≡◌, ℕ, ◌+◌, ◌*◌, ◌/◌, ◌%◌, ◌<◌, ◌≤◌, List, length, cond, ltb, get_or, take, ◌∙◌, mul-le-mul, arith}
use Rattle.std.proofs.lemmas.Bool.{cond-true, lt-ltb}
use Rattle.std.proofs.lemmas.List.FromFn.{fill_by_all}
use Rattle.std.proofs.lemmas.List.{get_or-take, length-take-le}
use Rattle.matrix.specs.Matrix.{Sized}
use Rattle.rules.specs.Pages.{le16, page_numbers}

-- there are at most 256
pub square_small : (m : ℕ) → Sized m → m * m ≤ 256
square_small m sized = mul-le-mul sized.1 sized.1

-- the i-th of them; 0 past the last
abbrev pub number_in : List ℕ → ℕ → ℕ → ℕ
number_in p m i = cond (ltb i (m * m)) (le16 p (12 + 2 * (16 * (i / m) + i % m))) 0

-- a list that has them all
pub numbers_are : (p numbers : List ℕ) (m : ℕ) → Sized m → length numbers ≡ 256 → ((k : ℕ) → k < 256 → get_or numbers k 0 ≡ number_in p m k) → take (m * m) numbers ≡ page_numbers p m
unfolding page_numbers
numbers_are p numbers m sized long each =
    let small = square_small m sized in
    fill_by_all (λ i. le16 p (12 + 2 * (16 * (i / m) + i % m))) (take (m * m) numbers) (m * m) 0 (length-take-le (m * m) numbers (omega (arith, small)))
    (λ k h. get_or-take (m * m) numbers k 0 h ∙ each k (omega (arith, small)) ∙ cond-true _ _ _ (lt-ltb k (m * m) h))
