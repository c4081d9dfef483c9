-- The words that name a bound. Assumes nothing.
use Rattle.std.specs.Prelude.{◌≡◌, ◌≢◌, ℕ, List, Ok, Err, Result, codes}
use Rattle.kinds.specs.declared.kind.Kind.{Kind}
use Rattle.kinds.specs.declared.kind.Kind.TheVariants.{NoBound, LeastGap, ShortestWalk}
use Rattle.kinds.specs.declared.kind.UnknownKind.{UnknownKind}

-- the name of a kind
abbrev pub kind_name : Kind → List ℕ
kind_name NoBound = codes "none"
kind_name LeastGap = codes "least"
kind_name ShortestWalk = codes "walk"

-- the kind that a word names, if it names one
abbrev pub Names : List ℕ → Result Kind UnknownKind → Type 0
Names word (Ok kind) = word ≡ kind_name kind
Names word (Err unknown) = (kind : Kind) → word ≢ kind_name kind
