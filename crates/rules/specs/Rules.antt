-- The rules of a half round. Each reads one face, with the numbers b of a bound. Assumes nothing.
use Rattle.std.specs.Prelude.{ℕ, zero, suc, ◌+◌, ◌-◌, min, max, Bool, true, false, cond, not, ◌&&◌, ◌||◌, ltb, Some, None, Option, ◌==◌, nat_le, nat_lt}
use Rattle.rules.specs.declared.outcome.Overload.{Overload}
use Rattle.rules.specs.declared.outcome.Overload.TheVariants.{NeitherFirst, TooMuch, TooShort}
use Rattle.rules.specs.Faces.{Face, with_windows, earliest_finish, latest_start}
use Rattle.rules.specs.Places.{before_by, first_such, E}

-- a time is above a limit; none is above nothing
abbrev pub above : Option ℕ → ℕ → Bool
above None limit = false
above (Some t) limit = nat_lt limit t

-- a time as a number, 0 for none
abbrev pub or_zero : Option ℕ → ℕ
or_zero None = 0
or_zero (Some t) = t

-- the greatest f j over the jobs of S; 0 where S has none
unfoldable pub greatest : (ℕ → Bool) → (ℕ → ℕ) → ℕ → ℕ
greatest S f zero = 0
greatest S f (suc k) = cond (S k) (max (greatest S f k) (f k)) (greatest S f k)

-- the lesser of a number and another, if there is another
abbrev pub lesser : Option ℕ → ℕ → ℕ
lesser None x = x
lesser (Some y) x = min y x

-- the least f j over the jobs of S; none where S has none
unfoldable pub least_over : (ℕ → Bool) → (ℕ → ℕ) → ℕ → Option ℕ
least_over S f zero = None
least_over S f (suc k) = cond (S k) (Some (lesser (least_over S f k) (f k))) (least_over S f k)

-- the job of S that comes first in an order; none where S has none
unfoldable pub first_in : (ℕ → ℕ → Bool) → (ℕ → Bool) → ℕ → Option ℕ
first_in before S zero = None
first_in before S (suc k) =
    cond (S k) (elim (first_in before S k) [ Some j ↦ cond (before k j) (Some k) (Some j) | None ↦ Some k ]) (first_in before S k)

-- E(S) and the least gap from S to i; none where S has no jobs
abbrev pub sum : Option ℕ → Option ℕ → Option ℕ
sum None y = None
sum (Some x) None = None
sum (Some x) (Some y) = Some (x + y)

unfoldable pub after : Face → (ℕ → ℕ) → (ℕ → Bool) → ℕ → Option ℕ
after F b S i = sum (E F b S) (least_over S (λ j. F.gap j i) F.n)

-- Rule 1. Job i can precede job j: after it and the gap, j can still start
unfoldable pub can_precede : Face → ℕ → ℕ → Bool
can_precede F i j = nat_le (earliest_finish F i + F.gap i j) (latest_start F j)

-- neither of two jobs can precede the other; of each pair, the one with the lower card first
unfoldable pub clash : Face → ℕ → ℕ → Bool
clash F i j = nat_lt i j && (not (can_precede F i j) && not (can_precede F j i))

-- whether something was found
abbrev pub found : Option ℕ → Bool
found None = false
found (Some j) = true

-- the lowest pair of jobs that clash
unfoldable pub clashing : Face → Option Overload
clashing F =
    elim (first_such (λ i. found (first_such (clash F i) F.n)) F.n) [
      | None ↦ None
      | Some i ↦ elim (first_such (clash F i) F.n) [ None ↦ None | Some j ↦ Some (NeitherFirst i j) ]
    ]

-- late order: by late end, then by card
abbrev pub late_before : Face → ℕ → ℕ → Bool
late_before F = before_by F.late

-- Q(j): j and all before it in late order
unfoldable pub up_to : Face → ℕ → ℕ → Bool
up_to F j k = late_before F k j || k == j

-- Rule 2. E(Q(j)) exceeds j's late end
unfoldable pub too_much : Face → (ℕ → ℕ) → ℕ → Bool
too_much F b j = above (E F b (up_to F j)) (F.late j)

-- the first such job in late order
unfoldable pub overloading : Face → (ℕ → ℕ) → Option Overload
overloading F b = elim (first_in (late_before F) (too_much F b) F.n) [ None ↦ None | Some j ↦ Some (TooMuch j) ]

-- Rule 3. Pairs: where i cannot precede j, its early end is at least j's earliest finish plus gap(j, i)
unfoldable pub pair_early : Face → ℕ → ℕ
pair_early F i = greatest (λ j. not (j == i) && not (can_precede F i j)) (λ j. earliest_finish F j + F.gap j i) F.n

-- Rule 4. Detectable precedences: the other jobs with latest start below i's earliest finish come before i
unfoldable pub detected : Face → ℕ → ℕ → Bool
detected F i j = not (j == i) && nat_lt (latest_start F j) (earliest_finish F i)

unfoldable pub detected_early : Face → (ℕ → ℕ) → ℕ → ℕ
detected_early F b i = or_zero (after F b (detected F i) i)

-- Rule 5. Not-last: the other jobs with latest start below i's late end, where i cannot come after them all
unfoldable pub rivals : Face → ℕ → ℕ → Bool
rivals F i j = not (j == i) && nat_lt (latest_start F j) (F.late i)

-- the late end that this leaves to i
unfoldable pub not_last_late : Face → (ℕ → ℕ) → ℕ → ℕ
not_last_late F b i =
    cond (above (after F b (rivals F i) i) (latest_start F i)) (greatest (rivals F i) (λ j. latest_start F j - F.gap i j) F.n) (F.late i)

-- Rule 6. Edge finding: Q(j) and i cannot all finish by j's late end
unfoldable pub with_job : ℕ → (ℕ → Bool) → ℕ → Bool
with_job i S k = k == i || S k

unfoldable pub tight : Face → (ℕ → ℕ) → ℕ → ℕ → Bool
tight F b i j = late_before F j i && above (E F b (with_job i (up_to F j))) (F.late j)

-- the last such j before i in late order, and the early end that it leaves to i
unfoldable pub edge_early : Face → (ℕ → ℕ) → ℕ → ℕ
edge_early F b i =
    elim (first_in (λ k j. late_before F j k) (tight F b i) F.n) [ None ↦ 0 | Some j ↦ or_zero (after F b (up_to F j) i) ]

-- Rule 7. Rules 3 to 6 take effect together
unfoldable pub new_early : Face → (ℕ → ℕ) → ℕ → ℕ
new_early F b i = max (F.early i) (max (pair_early F i) (max (detected_early F b i) (edge_early F b i)))

unfoldable pub new_late : Face → (ℕ → ℕ) → ℕ → ℕ
new_late F b i = min (F.late i) (not_last_late F b i)

-- the lowest card whose window is then shorter than its duration
unfoldable pub shortened : Face → (ℕ → ℕ) → Option Overload
shortened F b =
    elim (first_such (λ i. ltb (new_late F b i) (new_early F b i + F.duration i)) F.n) [ None ↦ None | Some i ↦ Some (TooShort i) ]

-- how a half round ends: overloaded, or with new windows
pub data Half : Type 0 where
  overloaded : Overload → Half
  goes_on : Face → Half

-- overloaded where a test found something, or else what follows
abbrev pub unless : Option Overload → Half → Half
unless (Some x) rest = overloaded x
unless None rest = rest

-- THE HALF ROUND: rules 1 and 2, then 3 to 6 together, then 7
unfoldable pub half_round : Face → (ℕ → ℕ) → Half
half_round F b =
    unless (clashing F) (unless (overloading F b) (unless (shortened F b) (goes_on (with_windows F (new_early F b) (new_late F b)))))
