-- The bound that the next words of a line name. Assumes nothing.
use Rattle.std.specs.Prelude.{◌≡◌, ◌≢◌, ◌⊎◌, Some, None, Ok, Err, Result, codes, List, ℕ}
use Rattle.std.specs.Borrow.{Bor}
use Rattle.std.specs.Str.Iter.{split_whitespace_steps}
use Rattle.std.specs.declared.str.SplitWhitespace.{SplitWhitespace}
use Rattle.kinds.specs.declared.kind.Kind.{Kind}
use Rattle.kinds.specs.declared.chosen.Choice.{Choice}
use Rattle.kinds.specs.declared.chosen.Choice.TheVariants.{One, Larger}
use Rattle.kinds.specs.declared.words.Unnamed.{Unnamed}
use Rattle.kinds.specs.declared.words.Unnamed.TheVariants.{Missing, Unknown}
use Rattle.kinds.specs.Names.{kind_name}

-- the kind that a word names; or that it names none
abbrev pub NamesKind : List ℕ → Result Kind Unnamed → Type 0
NamesKind word (Ok kind) = word ≡ kind_name kind
NamesKind word (Err Missing) = ⊥
NamesKind word (Err (Unknown other)) = (other.now ≡ word) × ((kind : Kind) → word ≢ kind_name kind)

-- the kind that the next word names; or that none is left, or names one
abbrev pub KindNext : SplitWhitespace → Result Kind Unnamed → SplitWhitespace → Type 0
KindNext s (Ok kind) t = (word : Bor (List ℕ)) × split_whitespace_steps s (Some word) t × (word.now ≡ kind_name kind)
KindNext s (Err Missing) t = split_whitespace_steps s None t
KindNext s (Err (Unknown other)) t =
    (word : Bor (List ℕ)) × split_whitespace_steps s (Some word) t × (other.now ≡ word.now) × ((kind : Kind) → word.now ≢ kind_name kind)

-- the word that names no kind is not "larger"
abbrev pub IsNotLarger : Unnamed → Type 0
IsNotLarger Missing = Unit {0}
IsNotLarger (Unknown word) = word.now ≢ codes "larger"

-- after the word "larger"
abbrev pub AfterLarger : SplitWhitespace → (SplitWhitespace → Type 0) → Type 0
AfterLarger s then = (word : Bor (List ℕ)) × (u : SplitWhitespace) × split_whitespace_steps s (Some word) u × (word.now ≡ codes "larger") × then u

-- what the next words name: a kind, or after "larger" two of them; or why they name nothing
abbrev pub ChoiceNext : SplitWhitespace → Result Choice Unnamed → SplitWhitespace → Type 0
ChoiceNext s (Ok (One kind)) t = KindNext s (Ok kind) t
ChoiceNext s (Ok (Larger one other)) t = AfterLarger s (λ u. (v : SplitWhitespace) × KindNext u (Ok one) v × KindNext v (Ok other) t)
ChoiceNext s (Err fault) t =
    (KindNext s (Err fault) t × IsNotLarger fault)
    ⊎ AfterLarger s (λ u. KindNext u (Err fault) t ⊎ ((one : Kind) × (v : SplitWhitespace) × KindNext u (Ok one) v × KindNext v (Err fault) t))
