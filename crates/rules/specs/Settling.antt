-- Rounds and settling. Assumes nothing.
use Rattle.std.specs.Prelude.{◌≡◌, ℕ, zero, suc, ◌+◌, ◌-◌, Bool, true, false, cond, ◌&&◌, Some, None, Option, ◌==◌}
use Rattle.rules.specs.declared.outcome.Side.TheVariants.{First, Turned}
use Rattle.rules.specs.declared.outcome.Cause.{Cause}
use Rattle.rules.specs.Faces.{Face, turned}
use Rattle.rules.specs.Rules.{Half, overloaded, goes_on, half_round}

-- how a round ends: overloaded with a cause and the windows that its half read, or with new windows
pub data Round : Type 0 where
  stops : Cause → Face → Round
  leaves : Face → Round

-- the second half, on the turned face: F is what the first half left
abbrev pub second_half : Face → Half → Round
second_half F (overloaded x) = stops (record { overload = x; side = Turned }) F
second_half F (goes_on G) = leaves (turned G)

-- the first half, on the first face
abbrev pub first_half : Face → (ℕ → ℕ) → Half → Round
first_half F b (overloaded x) = stops (record { overload = x; side = First }) F
first_half F b (goes_on G) = second_half G (half_round (turned G) b)

-- A ROUND: a half on the first face, then one on the turned face, both with the same b
unfoldable pub round : Face → (ℕ → ℕ) → Round
round F b = first_half F b (half_round F b)

-- whether the first k jobs have the same windows in both
unfoldable pub same_windows : Face → Face → ℕ → Bool
same_windows F G zero = true
same_windows F G (suc k) = same_windows F G k && (F.early k == G.early k && F.late k == G.late k)

abbrev pub unchanged : Face → Face → Bool
unchanged F G = same_windows F G F.n

-- how settling ends: the cause of an overload if it is one, the rounds begun, and the windows held
pub record Outcome : Type 0 where
  pub cause : Option Cause
  pub rounds : ℕ
  pub held : Face

-- SETTLING as a relation: from a face, after so many rounds, to an outcome
pub data Settles (b : ℕ → ℕ) : Face → ℕ → Outcome → Type 0 where
  ends_overloaded : {F G : Face} {r : ℕ} {c : Cause} → round F b ≡ stops c G → Settles b F r (record { cause = Some c; rounds = r + 1; held = G })
  ends_settled : {F G : Face} {r : ℕ} → round F b ≡ leaves G → unchanged F G ≡ true → Settles b F r (record { cause = None; rounds = r + 1; held = F })
  next_round : {F G : Face} {r : ℕ} {O : Outcome} → round F b ≡ leaves G → unchanged F G ≡ false → Settles b G (r + 1) O → Settles b F r O

-- the minutes of the first k windows
unfoldable pub minutes : Face → ℕ → ℕ
minutes F zero = 0
minutes F (suc k) = minutes F k + (F.late k - F.early k)

abbrev pub all_minutes : Face → ℕ
all_minutes F = minutes F F.n

-- SETTLING as it is computed: with at most `fuel` rounds more
unfoldable pub settled_within : ℕ → (ℕ → ℕ) → Face → ℕ → Outcome
settled_within zero b F r = record { cause = None; rounds = r; held = F }
settled_within (suc fuel) b F r =
    elim (round F b) [
      | stops c G ↦ record { cause = Some c; rounds = r + 1; held = G }
      | leaves G ↦ cond (unchanged F G) (record { cause = None; rounds = r + 1; held = F }) (settled_within fuel b G (r + 1))
    ]

-- what settling a face gives: each round that changes a window cuts a minute, so this many rounds are enough
unfoldable pub settled : (ℕ → ℕ) → Face → Outcome
settled b F = settled_within (all_minutes F + 1) b F 0
