-- The cards of a chain. Assumes nothing.
use Rattle.std.specs.Prelude.{ℕ, Bool, not, ◌&&◌, List, take}
use Rattle.rules.specs.Cards.{member, is_card}
use Rattle.chain.specs.declared.chain.Chain.{Chain}

-- its cards, in order
abbrev pub cards : Chain → List ℕ
cards chain = take chain.count chain.order

-- a card can be put at the end: it is one, and is not among them
abbrev pub can_join : ℕ → List ℕ → Bool
can_join card others = is_card card && not (member card others)
