-- What `least` and `but` give, and a fold that gives it. Assumes nothing.
use Rattle.std.specs.Prelude.{◌≡◌, ℕ, zero, suc, ◌+◌, ◌<◌, ◌≤◌, min, map, ◌⊎◌, refl}
use Rattle.std.specs.List.{fold, range_with_len}
use Rattle.std.proofs.Common.{add-one, ap, ◌∙◌, inl, inr, ⊎_elim, arith}
use Rattle.std.proofs.lemmas.Bool.{cases_lt, cond-true, eq-eqb}
use Rattle.changeover.specs.Kinds.{least, but}

-- one value more
pub least_more : (top n : ℕ) (f : ℕ → ℕ) → least top (n + 1) f ≡ min (least top n f) (f n)
least_more top n f = rw add-one refl

pub least_top : (top n : ℕ) (f : ℕ → ℕ) → least top n f ≤ top
least_top top zero f = omega arith
least_top top (suc k) f = let h = least_top top k f in omega arith

-- it is of the values alone
pub least_same : (top n : ℕ) (f g : ℕ → ℕ) → ((k : ℕ) → k < n → f k ≡ g k) → least top n f ≡ least top n g
least_same top zero f g h = refl
least_same top (suc n) f g h =
    let here = h n (omega arith) in
    let before = least_same top n f g (λ k lt. h k (omega arith)) in
    omega arith

-- its first value may be taken into the top
least_first : (top n : ℕ) (f : ℕ → ℕ) → least (min top (f 0)) n (λ k. f (suc k)) ≡ least top (suc n) f
least_first top zero f = refl
least_first top (suc n) f = ap (λ x. min x (f (suc n))) (least_first top n f)

-- it is what a fold over the numbers from s gives
least_from : (top s n : ℕ) (f : ℕ → ℕ) → fold min top (map f (range_with_len s n)) ≡ least top n (λ k. f (s + k))
least_from top s zero f = refl
least_from top s (suc n) f =
    let step : ℕ → ℕ = λ k. f (s + k) in
    let here : f s ≡ step 0 = ap f (omega arith) in
    least_from (min top (f s)) (s + 1) n f
    ∙ least_same (min top (f s)) n (λ k. f (s + 1 + k)) (λ k. step (suc k)) (λ k h. ap f (omega arith))
    ∙ ap (λ x. least (min top x) n (λ k. step (suc k))) here
    ∙ least_first top n step

pub fold_least : (top n : ℕ) (f : ℕ → ℕ) → fold min top (map f (range_with_len 0 n)) ≡ least top n f
fold_least top n f = least_from top 0 n f ∙ least_same top n (λ k. f (0 + k)) f (λ k h. ap f (omega arith))

-- it is the top, or one of the values
pub least_one_of : (top n : ℕ) (f : ℕ → ℕ) → (least top n f ≡ top) ⊎ ((k : ℕ) × ((k < n) × (least top n f ≡ f k)))
least_one_of top zero f = inl refl
least_one_of top (suc n) f =
    ⊎_elim
    (λ lt. ⊎_elim (λ e. inl (omega arith)) (λ p. inr (p.0, (omega (arith, p.1.0), omega (arith, p.1.1)))) (least_one_of top n f))
    (λ le. inr (n, (omega arith, omega arith)))
    (cases_lt (least top n f) (f n))

pub but_same : (top j : ℕ) (f : ℕ → ℕ) (i : ℕ) → i ≡ j → but top j f i ≡ top
but_same top j f i e = cond-true _ _ _ (eq-eqb i j e)
