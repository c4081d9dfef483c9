-- The held windows of a chain. Assumes nothing.
use Rattle.std.proofs.Common.{◌≡◌, ℕ, Bool, ◌&&◌, eqb, List, [], ◌∷◌, refl, ap}
use Rattle.std.specs.List.{list_all}
use Rattle.rules.specs.Models.{Model, held_on}
use Rattle.rules.specs.Pages.{held_in, same_held}

-- a card holds the same
abbrev pub same_on : List ℕ → Model → ℕ → Bool
same_on p M card = eqb (held_in p card).early (held_on M card).early && eqb (held_in p card).late (held_on M card).late

-- each of a list does
pub all_same : (p : List ℕ) (M : Model) (cards : List ℕ) → list_all (same_on p M) cards ≡ same_held p M cards
all_same p M [] = refl
all_same p M (card ∷ cards) = ap (λ (b : Bool). same_on p M card && b) (all_same p M cards)
