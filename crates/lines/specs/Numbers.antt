-- Comments, and numbers that are written out. Assumes nothing.
use Rattle.std.specs.Prelude.{◌≡◌, ℕ, List, IfErr, Result, ◌==◌}
use Rattle.std.specs.Borrow.{Bor}
use Rattle.std.specs.Str.Parse.{ParsesUnsigned}
use Rattle.std.specs.List.{before_first}
use Rattle.lines.specs.declared.unread.Unread.{Unread}
use Rattle.lines.specs.declared.unread.Unread.TheVariants.{NoShort, NoLong}

-- the bytes of a line before the first `#`
abbrev pub before_hash : List ℕ → List ℕ
before_hash line = before_first (λ b. b == 35) line

-- a whole number of 16 bits, in decimal digits after one plus sign or none; or the word, where it is none
abbrev pub ShortRead : List ℕ → Result ℕ Unread → Type 0
ShortRead word r = ParsesUnsigned 16 10 word r × IfErr r (λ e. (w : Bor (List ℕ)) × (e ≡ NoShort w) × (w.now ≡ word))

-- the same of 32 bits
abbrev pub LongRead : List ℕ → Result ℕ Unread → Type 0
LongRead word r = ParsesUnsigned 32 10 word r × IfErr r (λ e. (w : Bor (List ℕ)) × (e ≡ NoLong w) × (w.now ≡ word))
