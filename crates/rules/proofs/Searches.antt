-- What the searches of the rules find: the first that passes, the first in an order, the greatest and the least. Assumes nothing.
use Rattle.std.proofs.Common.{◌≡◌, ℕ, zero, suc, ◌<◌, ◌≤◌, max, Bool, true, false, Some, None, Option, refl, ⊎_elim, not-suc-le-zero, arith}
use Rattle.std.proofs.lemmas.Bool.{cond_both, cases_eq}
use Rattle.rules.specs.Places.{first_such}
use Rattle.rules.specs.Rules.{greatest, lesser, least_over, first_in}

-- what is found passes
pub such_passes : (test : ℕ → Bool) (m j : ℕ) → first_such test m ≡ Some j → (j < m) × (test j ≡ true)
unfolding first_such
such_passes test zero j e = absurd (grind arith)
such_passes test (suc m) j e = let r : first_such test m ≡ Some j → (j < m) × (test j ≡ true) = such_passes test m j in grind arith

-- where nothing is found nothing passes
pub such_none : (test : ℕ → Bool) (m : ℕ) → first_such test m ≡ None → (j : ℕ) → j < m → test j ≡ false
unfolding first_such
such_none test zero e j h = absurd (not-suc-le-zero h)
such_none test (suc m) e j h =
    let r : first_such test m ≡ None → j < m → test j ≡ false = λ q. such_none test m q j in
    ⊎_elim (λ q. grind arith) (λ q. grind arith) (cases_eq j m)

-- where one passes, something is found
pub such_found : (test : ℕ → Bool) (m a : ℕ) → a < m → test a ≡ true → (j : ℕ) × (first_such test m ≡ Some j)
such_found test m a h t = go (first_such test m) refl
  where
    go : (o : Option ℕ) → first_such test m ≡ o → (j : ℕ) × (first_such test m ≡ Some j)
    go None e = let f = such_none test m e a h in absurd (grind arith)
    go (Some j) e = (j, e)

-- what comes first in an order is of the set
pub first_is : (before : ℕ → ℕ → Bool) (S : ℕ → Bool) (m j : ℕ) → first_in before S m ≡ Some j → (j < m) × (S j ≡ true)
unfolding first_in
first_is before S zero j e = absurd (grind arith)
first_is before S (suc m) j e = let r : (k : ℕ) → first_in before S m ≡ Some k → (k < m) × (S k ≡ true) = first_is before S m in grind arith

-- the greatest is at least each
pub greatest_over : (S : ℕ → Bool) (f : ℕ → ℕ) (m j : ℕ) → j < m → S j ≡ true → f j ≤ greatest S f m
unfolding greatest
greatest_over S f zero j h t = absurd (not-suc-le-zero h)
greatest_over S f (suc m) j h t =
    ⊎_elim (λ e. grind arith) (λ d. let r = greatest_over S f m j (omega arith) t in grind arith) (cases_eq j m)

-- what each is at most, the greatest is at most
pub greatest_under : (S : ℕ → Bool) (f : ℕ → ℕ) (m top : ℕ) → ((j : ℕ) → j < m → S j ≡ true → f j ≤ top) → greatest S f m ≤ top
unfolding greatest
greatest_under S f zero top h = omega arith
greatest_under S f (suc m) top h =
    let r = greatest_under S f m top (λ j l. h j (omega arith)) in
    cond_both (S m) (max (greatest S f m) (f m)) (greatest S f m) (λ x. x ≤ top) (λ t. omega (arith, h m (omega arith) t)) (λ _. r)

-- the lesser is at most the other number
lesser_under : (o : Option ℕ) (x : ℕ) → lesser o x ≤ x
lesser_under None x = omega arith
lesser_under (Some y) x = omega arith

-- a least is kept, or made less
lesser_kept : (o : Option ℕ) (x top : ℕ) → ((y : ℕ) → o ≡ Some y → y ≤ top) → (a : ℕ) → o ≡ Some a → lesser o x ≤ top
lesser_kept None x top h a e = absurd (grind arith)
lesser_kept (Some y) x top h a e = omega (arith, h y refl)

-- the set has a least where it has a job
least_there : (S : ℕ → Bool) (f : ℕ → ℕ) (m a : ℕ) → a < m → S a ≡ true → (g : ℕ) × (least_over S f m ≡ Some g)
unfolding least_over
least_there S f zero a h t = absurd (not-suc-le-zero h)
least_there S f (suc m) a h t =
    cond_both (S m) (Some (lesser (least_over S f m) (f m))) (least_over S f m) (λ o. (g : ℕ) × (o ≡ Some g))
    (λ _. (lesser (least_over S f m) (f m), refl))
    (λ q. least_there S f m a (⊎_elim (λ e. absurd (grind arith)) (λ d. omega arith) (cases_eq a m)) t)

-- the least is at most each
pub least_under : (S : ℕ → Bool) (f : ℕ → ℕ) (m g : ℕ) → least_over S f m ≡ Some g → (j : ℕ) → j < m → S j ≡ true → g ≤ f j
unfolding least_over
least_under S f zero g e j h t = absurd (not-suc-le-zero h)
least_under S f (suc m) g e j h t =
    let o : Option ℕ = least_over S f m in
    ⊎_elim
    (λ q. let v : lesser o (f j) ≡ g = grind arith in omega (arith, lesser_under o (f j)))
    (λ d.
    let l : j < m = omega arith in
    cond_both (S m) (Some (lesser o (f m))) o (λ x. x ≡ Some g → g ≤ f j)
    (λ _ q.
    let v : lesser o (f m) ≡ g = cc in
    let a = least_there S f m j l t in
    omega (arith, lesser_kept o (f m) (f j) (λ y r. least_under S f m y r j l t) a.0 a.1))
    (λ _ q. least_under S f m g q j l t)
    e)
    (cases_eq j m)

-- where there is a least, the set has a job
pub least_of : (S : ℕ → Bool) (f : ℕ → ℕ) (m g : ℕ) → least_over S f m ≡ Some g → (a : ℕ) × (a < m) × (S a ≡ true)
unfolding least_over
least_of S f zero g e = absurd (grind arith)
least_of S f (suc m) g e =
    cond_both (S m) (Some (lesser (least_over S f m) (f m))) (least_over S f m) (λ o. o ≡ Some g → (a : ℕ) × (a < suc m) × (S a ≡ true))
    (λ t _. (m, omega arith, t))
    (λ _ q. let r = least_of S f m g q in (r.0, omega (arith, r.1), r.2))
    e
