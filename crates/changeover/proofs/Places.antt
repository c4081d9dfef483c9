-- Lists that are written place by place. Assumes nothing.
use Rattle.std.proofs.Common.{◌≡◌, ℕ, zero, suc, ◌+◌, ◌-◌, ◌<◌, ◌≤◌, ◌≢◌, List, ◌++◌, drop, length, get_or, set, replicate, sym, refl, ◌∙◌, subst, ⊎_elim, get_or-set_other, get_or-set_same}
use Rattle.std.proofs.lemmas.List.{get_or-append_right, get_or-drop}
use Rattle.std.proofs.lemmas.Bool.{cases_eq}

-- zeros are 0 at each place, past their end too
pub zero_at : (n k : ℕ) → get_or {A = ℕ} (replicate n 0) k 0 ≡ 0
zero_at zero k = refl
zero_at (suc n) zero = refl
zero_at (suc n) (suc k) = zero_at n k

-- what holds at the other places, and of v at i, holds at each place once v is written
pub each_set : (P : ℕ → ℕ → Type 0) (xs : List ℕ) (i v : ℕ) → i < length xs → ((k : ℕ) → k ≢ i → P k (get_or xs k 0)) → P i v → (k : ℕ) → P k (get_or (set xs i v) k 0)
each_set P xs i v lt others here k =
    ⊎_elim
    (λ e. subst (λ (m : ℕ). P m (get_or (set xs i v) m 0)) (sym e) (subst (P i) (sym (get_or-set_same xs i v 0 lt)) here))
    (λ ne. subst (P k) (sym (get_or-set_other xs i k v 0 ne)) (others k ne))
    (cases_eq k i)

-- what stands past written places, where zeros stood before
pub zero_past : (xs : List ℕ) (m n k : ℕ) → length xs ≡ n → n ≤ k → get_or (xs ++ drop n (replicate m 0)) k 0 ≡ 0
zero_past xs m n k long le =
    get_or-append_right xs (drop n (replicate m 0)) n k 0 long le ∙ get_or-drop n (replicate m 0) (k - n) 0 ∙ zero_at m (n + (k - n))
