-- The first byte that belongs to nothing. Assumes nothing.
use Rattle.std.proofs.Common.{◌≡◌, ℕ, zero, suc, ◌<◌, Bool, true, false, ◌||◌, eqb, List, [], ◌∷◌, Some, None, Option, sym, refl, ap, add-one, arith}
use Rattle.std.specs.List.{list_any}
use Rattle.std.specs.Option.{MatchOption}
use Rattle.rules.specs.Cards.{member}
use Rattle.rules.specs.Places.{first_such}
use Rattle.filtering.proofs.Finds.{such_start, such_more, such_at}

-- some card of a list is k
pub any_member : (k : ℕ) (cards : List ℕ) → list_any (λ x. eqb k x) cards ≡ member k cards
any_member k [] = refl
any_member k (x ∷ xs) = ap (λ (b : Bool). eqb k x || b) (any_member k xs)

module _ (test : ℕ → Bool) where
  -- where none passes nothing is found
  such_nowhere : (n : ℕ) → ((k : ℕ) → k < n → test k ≡ false) → None ≡ first_such test n
  such_nowhere zero out = such_start test
  such_nowhere (suc n) out = rw (← add-one) (such_more test n (such_nowhere n (λ k h. out k (omega arith))) (sym (out n (omega arith))))

  -- what `find` over the numbers below n gives
  pub such_found : (n : ℕ) (o : Option ℕ) → MatchOption o ((k : ℕ) → k < n → test k ≡ false) (λ i. (i < n) × (test i ≡ true) × ((k : ℕ) → k < i → test k ≡ false)) → o ≡ first_such test n
  such_found n None out = such_nowhere n out
  such_found n (Some i) at = such_at test i n (such_nowhere i at.2) (sym at.1) at.0
