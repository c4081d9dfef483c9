-- The numbers of a bound that is chosen as a program runs. Assumes nothing.
use Rattle.std.specs.Prelude.{ℕ, slice_index}
use Rattle.changeover.specs.Kinds.{zeros, least_gap, multiples, shortest_walk, larger}
use Rattle.kinds.specs.declared.kind.Kind.{Kind}
use Rattle.kinds.specs.declared.kind.Kind.TheVariants.{NoBound, LeastGap, ShortestWalk}
use Rattle.kinds.specs.declared.chosen.Choice.{Choice}
use Rattle.kinds.specs.declared.chosen.Choice.TheVariants as choices
use Rattle.kinds.specs.declared.chosen.ChoiceNumbers.{ChoiceNumbers}
use Rattle.kinds.specs.declared.chosen.ChoiceNumbers.TheVariants as worked
use Rattle.kinds.specs.declared.kind.KindNumbers.{KindNumbers}
use Rattle.kinds.specs.declared.kind.KindNumbers.TheVariants.{None, Least, Walk}

-- the numbers that a kind becomes, of n jobs and the gaps between them
abbrev pub kind_at : Kind → ℕ → (ℕ → ℕ → ℕ) → ℕ → ℕ
kind_at NoBound n gap = zeros
kind_at LeastGap n gap = multiples n (least_gap n gap)
kind_at ShortestWalk n gap = shortest_walk n gap

-- the numbers, once worked out
abbrev pub numbers_at : KindNumbers → ℕ → ℕ
numbers_at (None b) = zeros
numbers_at (Least b) = multiples b.jobs b.step
numbers_at (Walk b) = λ e. slice_index b.places e

-- one kind, or the larger of two
abbrev pub choice_at : Choice → ℕ → (ℕ → ℕ → ℕ) → ℕ → ℕ
choice_at (choices.One kind) n gap = kind_at kind n gap
choice_at (choices.Larger one other) n gap = larger (kind_at one n gap) (kind_at other n gap)

abbrev pub choice_numbers : ChoiceNumbers → ℕ → ℕ
choice_numbers (worked.One b) = numbers_at b
choice_numbers (worked.Two b) = larger (numbers_at b.one) (numbers_at b.other)
