-- What a lifted leaf holds. Assumes nothing.
use Rattle.std.specs.Prelude.{ℕ, Ok, Err, Result}
use Rattle.theta.specs.declared.refusals.TreeRefusal.{TreeRefusal}
use Rattle.theta.specs.declared.lifted.Lifted.{Lifted}

-- the place that the leaf was lifted out of
abbrev pub place_of : {N : Type 0} → Lifted N → ℕ
place_of t = t.place

-- the leaf
abbrev pub leaf_of : {N : Type 0} → Lifted N → N
leaf_of t = t.leaf

-- the answer of a lift, with the token read off: its place, its leaf, and how many nodes were written
abbrev pub read_off : {N : Type 0} → Result (Lifted N × ℕ) TreeRefusal → Result (ℕ × N × ℕ) TreeRefusal
read_off (Ok t) = Ok (place_of t.0, leaf_of t.0, t.1)
read_off (Err e) = Err e
