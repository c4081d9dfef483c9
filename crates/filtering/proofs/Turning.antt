-- What a round leaves, from its halves. Assumes nothing.
use Rattle.std.proofs.Common.{◌≡◌, ℕ, refl, ap, ◌∙◌}
use Rattle.rules.specs.declared.outcome.Overload.{Overload}
use Rattle.rules.specs.declared.outcome.Side.TheVariants.{First}
use Rattle.rules.specs.Faces.{Face, turned}
use Rattle.rules.specs.Rules.{Half, overloaded, goes_on, half_round}
use Rattle.rules.specs.Settling.{stops, first_half, second_half, round}

module _ (F : Face) (b : ℕ → ℕ) where
  round_is : first_half F b (half_round F b) ≡ round F b
  unfolding round
  round_is = refl

  -- the first half is overloaded
  pub round_first : (x : Overload) → overloaded x ≡ half_round F b → stops (record { overload = x; side = First }) F ≡ round F b
  round_first x e = ap (first_half F b) e ∙ round_is

  -- the first half leaves G, and the second ends with h
  pub round_second : (G : Face) (h : Half) → goes_on G ≡ half_round F b → h ≡ half_round (turned G) b → second_half G h ≡ round F b
  round_second G h e f = ap (second_half G) f ∙ ap (first_half F b) e ∙ round_is
