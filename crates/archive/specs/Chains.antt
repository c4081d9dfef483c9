-- The chain that was read, as a list of cards. Assumes nothing.
use Rattle.std.specs.Prelude.{ℕ, List, Ok, Err, Result}
use Rattle.chain.specs.declared.chain.Chain.{Chain}
use Rattle.chain.specs.Listed.{cards}

abbrev pub cards_of : {E : Type 0} → Result Chain E → Result (List ℕ) E
cards_of (Ok chain) = Ok (cards chain)
cards_of (Err fault) = Err fault
