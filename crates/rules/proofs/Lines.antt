-- Rows of different jobs: sorted by start, their gaps cut into blocks, and when the last of them finishes. Assumes nothing.
use Rattle.std.proofs.Common.{◌≡◌, ℕ, zero, suc, ◌+◌, ◌<◌, ◌≤◌, cond, ltb, ◌≢◌, List, [], ◌∷◌, length, take, drop, sym, refl, ⊎_elim, arith, length-drop, length-take}
use Rattle.std.specs.List.{AllByRecursion as All}
use Rattle.std.proofs.ByRecursion.{All-weaker, All-take, All-drop}
use Rattle.std.proofs.lemmas.Bool.{cond_both, ltb-true, ltb-false, cases_order}
use Rattle.changeover.specs.Rows.{Lawful, Apart, Different, Within, gaps_along}
use Rattle.rules.specs.Faces.{Face}
use Rattle.rules.specs.Plans.{Precedes}

-- no number stands twice
abbrev pub Distinct : List ℕ → Type 0
Distinct [] = Unit {0}
Distinct (x ∷ xs) = All (λ y. x ≢ y) xs × Distinct xs

-- the words of the law in these words, and back
pub all_within : (n : ℕ) (xs : List ℕ) → All (λ j. j < n) xs → Within n xs
all_within n [] h = tt
all_within n (x ∷ xs) h = (h.0, all_within n xs h.1)

pub within_all : (n : ℕ) (xs : List ℕ) → Within n xs → All (λ j. j < n) xs
within_all n [] h = tt
within_all n (x ∷ xs) h = (h.0, within_all n xs h.1)

pub all_apart : (x : ℕ) (ys : List ℕ) → All (λ y. x ≢ y) ys → Apart x ys
all_apart x [] h = tt
all_apart x (y ∷ ys) h = (h.0, all_apart x ys h.1)

pub apart_all : (x : ℕ) (ys : List ℕ) → Apart x ys → All (λ y. x ≢ y) ys
apart_all x [] h = tt
apart_all x (y ∷ ys) h = (h.0, apart_all x ys h.1)

pub all_different : (xs : List ℕ) → Distinct xs → Different xs
all_different [] d = tt
all_different (x ∷ xs) d = (all_apart x xs d.0, all_different xs d.1)

pub different_all : (xs : List ℕ) → Different xs → Distinct xs
different_all [] d = tt
different_all (x ∷ xs) d = (apart_all x xs d.0, different_all xs d.1)

-- the law, of a row of different jobs
pub law_of : (n : ℕ) (gap : ℕ → ℕ → ℕ) (b : ℕ → ℕ) → Lawful n gap b →
    (e : ℕ) (row : List ℕ) → length row ≡ suc e → All (λ j. j < n) row → Distinct row → b e ≤ gaps_along gap row
law_of n gap b law e row long within apart =
    law.under e row (record { within = all_within n row within; different = all_different row apart; long = omega arith })

-- each element starts before all that follow it
abbrev pub Rising : (ℕ → ℕ) → List ℕ → Type 0
Rising s [] = Unit {0}
Rising s (x ∷ xs) = All (λ y. s x < s y) xs × Rising s xs

-- durations, or other numbers, added up
abbrev pub total : (ℕ → ℕ) → List ℕ → ℕ
total f [] = 0
total f (x ∷ xs) = f x + total f xs

-- the list with x put before the first element that starts later
abbrev pub insert : (ℕ → ℕ) → ℕ → List ℕ → List ℕ
insert s x [] = x ∷ []
insert s x (y ∷ ys) = cond (ltb (s x) (s y)) (x ∷ y ∷ ys) (y ∷ insert s x ys)

-- the list by start
abbrev pub sort : (ℕ → ℕ) → List ℕ → List ℕ
sort s [] = []
sort s (x ∷ xs) = insert s x (sort s xs)

-- what x and all of a list have, all have with x put in
pub all_insert : (s : ℕ → ℕ) (P : ℕ → Type 0) (x : ℕ) (ys : List ℕ) → P x → All P ys → All P (insert s x ys)
all_insert s P x [] p h = (p, tt)
all_insert s P x (y ∷ ys) p h =
    cond_both (ltb (s x) (s y)) (x ∷ y ∷ ys) (y ∷ insert s x ys) (All P) (λ _. (p, h)) (λ _. (h.0, all_insert s P x ys p h.1))

-- what all have, all have once sorted
pub all_sort : (s : ℕ → ℕ) (P : ℕ → Type 0) (xs : List ℕ) → All P xs → All P (sort s xs)
all_sort s P [] h = tt
all_sort s P (x ∷ xs) h = all_insert s P x (sort s xs) h.0 (all_sort s P xs h.1)

-- sorting changes no total
total_insert : (s f : ℕ → ℕ) (x : ℕ) (ys : List ℕ) → total f (insert s x ys) ≡ f x + total f ys
total_insert s f x [] = refl
total_insert s f x (y ∷ ys) =
    cond_both (ltb (s x) (s y)) (x ∷ y ∷ ys) (y ∷ insert s x ys) (λ r. total f r ≡ f x + (f y + total f ys)) (λ _. refl) (λ _. omega (arith, total_insert s f x ys))

pub total_sort : (s f : ℕ → ℕ) (xs : List ℕ) → total f (sort s xs) ≡ total f xs
total_sort s f [] = refl
total_sort s f (x ∷ xs) = omega (arith, total_insert s f x (sort s xs), total_sort s f xs)

-- nor how many there are
length_total : (xs : List ℕ) → length xs ≡ total (λ _. 1) xs
length_total [] = refl
length_total (x ∷ xs) = omega (arith, length_total xs)

pub length_sort : (s : ℕ → ℕ) (xs : List ℕ) → length (sort s xs) ≡ length xs
length_sort s xs = omega (arith, length_total xs, length_total (sort s xs), total_sort s (λ _. 1) xs)

-- nor that they are different
pub distinct_insert : (s : ℕ → ℕ) (x : ℕ) (ys : List ℕ) → All (λ y. x ≢ y) ys → Distinct ys → Distinct (insert s x ys)
distinct_insert s x [] a d = (tt, tt)
distinct_insert s x (y ∷ ys) a d =
    cond_both (ltb (s x) (s y)) (x ∷ y ∷ ys) (y ∷ insert s x ys) Distinct (λ _. (a, d))
    (λ _. (all_insert s (λ z. y ≢ z) x ys (λ e. a.0 (sym e)) d.0, distinct_insert s x ys a.1 d.1))

pub distinct_sort : (s : ℕ → ℕ) (xs : List ℕ) → Distinct xs → Distinct (sort s xs)
distinct_sort s [] d = tt
distinct_sort s (x ∷ xs) d = distinct_insert s x (sort s xs) (all_sort s (λ y. x ≢ y) xs d.0) (distinct_sort s xs d.1)

-- where different jobs of P start at different times, a list of them by start rises
module _ (s : ℕ → ℕ) (P : ℕ → Type 0) (differ : (x y : ℕ) → P x → P y → x ≢ y → s x ≢ s y) where
  rising_insert : (x : ℕ) (ys : List ℕ) → P x → All P ys → All (λ y. x ≢ y) ys → Rising s ys → Rising s (insert s x ys)
  rising_insert x [] px ps a r = (tt, tt)
  rising_insert x (y ∷ ys) px ps a r =
      cond_both (ltb (s x) (s y)) (x ∷ y ∷ ys) (y ∷ insert s x ys) (Rising s)
      (λ e. let l = ltb-true (s x) (s y) e in ((l, All-weaker (λ z. s y < s z) (λ z. s x < s z) (λ z h. omega arith) ys r.0), r))
      (λ e.
      let l = ltb-false (s x) (s y) e in
      let d = differ x y px ps.0 a.0 in
      let k : s y < s x = ⊎_elim (λ q. absurd (d q)) (λ q. ⊎_elim (λ p. absurd (omega arith)) (λ p. p) q) (cases_order (s x) (s y)) in
      (all_insert s (λ z. s y < s z) x ys k r.0, rising_insert x ys px ps.1 a.1 r.1))

  pub rising_sort : (xs : List ℕ) → All P xs → Distinct xs → Rising s (sort s xs)
  rising_sort [] h d = tt
  rising_sort (x ∷ xs) h d = rising_insert x (sort s xs) h.0 (all_sort s P xs h.1) (all_sort s (λ y. x ≢ y) xs d.0) (rising_sort xs h.1 d.1)

-- where of two jobs of Q the one that starts first precedes the other, the last of a row finishes after all durations and gaps
pub row_ends : (F : Face) (s : ℕ → ℕ) (Q : ℕ → Type 0) → ((x y : ℕ) → Q x → Q y → s x < s y → Precedes F s x y) →
    (x : ℕ) (xs : List ℕ) → All Q (x ∷ xs) → Rising s (x ∷ xs) →
    (j : ℕ) × Q j × (s x + total F.duration (x ∷ xs) + gaps_along F.gap (x ∷ xs) ≤ s j + F.duration j)
row_ends F s Q first x [] q r = (x, q.0, omega arith)
row_ends F s Q first x (y ∷ ys) q r =
    let w : (j : ℕ) × Q j × (s y + total F.duration (y ∷ ys) + gaps_along F.gap (y ∷ ys) ≤ s j + F.duration j) = row_ends F s Q first y ys q.1 r.1 in
    (w.0, w.1, omega (arith, w.2, first x y q.0 q.1.0 r.0.0))

-- a row cut at its place m, which both parts have
gaps_cut : (gap : ℕ → ℕ → ℕ) (m : ℕ) (xs : List ℕ) → m < length xs → gaps_along gap (take (suc m) xs) + gaps_along gap (drop m xs) ≡ gaps_along gap xs
gaps_cut gap m [] h = omega arith
gaps_cut gap zero (x ∷ xs) h = omega arith
gaps_cut gap (suc m) (x ∷ []) h = omega arith
gaps_cut gap (suc m) (x ∷ y ∷ ys) h = omega (arith, gaps_cut gap m (y ∷ ys) (omega arith))

-- parts of different jobs are different
distinct_take : (m : ℕ) (xs : List ℕ) → Distinct xs → Distinct (take m xs)
distinct_take zero xs d = tt
distinct_take (suc m) [] d = tt
distinct_take (suc m) (x ∷ xs) d = (All-take (λ y. x ≢ y) m xs d.0, distinct_take m xs d.1)

distinct_drop : (m : ℕ) (xs : List ℕ) → Distinct xs → Distinct (drop m xs)
distinct_drop zero xs d = d
distinct_drop (suc m) [] d = tt
distinct_drop (suc m) (x ∷ xs) d = distinct_drop m xs d.1

-- a row's gaps, cut into blocks of so many gaps each
pub gaps_blocks : (n : ℕ) (gap : ℕ → ℕ → ℕ) (b : ℕ → ℕ) → Lawful n gap b →
    (ms row : List ℕ) → length row ≡ suc (total (λ m. m) ms) → All (λ j. j < n) row → Distinct row → total b ms ≤ gaps_along gap row
gaps_blocks n gap b law [] row e h d = omega arith
gaps_blocks n gap b law (m ∷ ms) row e h d =
    let front : b m ≤ gaps_along gap (take (suc m) row) =
    law_of n gap b law m (take (suc m) row) (simp length-take (omega arith)) (All-take (λ j. j < n) (suc m) row h) (distinct_take (suc m) row d) in
    let back : total b ms ≤ gaps_along gap (drop m row) =
    gaps_blocks n gap b law ms (drop m row) (simp length-drop (omega arith)) (All-drop (λ j. j < n) m row h) (distinct_drop m row d) in
    omega (arith, gaps_cut gap m row (omega arith))
