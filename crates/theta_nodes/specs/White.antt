-- The node of white leaves. Assumes nothing.
use Rattle.std.specs.Prelude.{ℕ, ◌+◌, ◌≤◌, min, max, Some, None, Option}
use Rattle.theta_nodes.specs.declared.white.White.{White}

-- sums stop at 1,000,000,000
abbrev pub capped : ℕ → ℕ
capped n = min n 1000000000

-- the later of two times; none is below every time
abbrev pub later : Option ℕ → Option ℕ → Option ℕ
later None y = y
later (Some x) None = Some x
later (Some x) (Some y) = Some (max x y)

-- a time and so many minutes more; none stays none
abbrev pub after : Option ℕ → ℕ → Option ℕ
after None minutes = None
after (Some t) minutes = Some (capped (t + minutes))

-- the empty node: 0, 0, none
abbrev pub empty_white : White
empty_white = record { total = 0; count = 0; finish = None }

-- a leaf: its duration, 1, its earliest finish
abbrev pub white_leaf : ℕ → ℕ → White
white_leaf duration finish = record { total = duration; count = 1; finish = Some finish }

-- the join of left l and right r: P = Pl + Pr, n = nl + nr, e = the greater of er and el + Pr + b(nr)
unfoldable pub white_join : (ℕ → ℕ) → White → White → White
white_join b l r = record {
  total = capped (l.total + r.total);
  count = capped (l.count + r.count);
  finish = later r.finish (after l.finish (r.total + b r.count));
}

-- a time that is at most 1,000,000,000, or none
abbrev pub Timed : Option ℕ → Type 0
Timed None = Unit {0}
Timed (Some t) = t ≤ 1000000000

-- each number is at most 1,000,000,000
pub record Sound (w : White) : Type 0 where
  pub total_fits : w.total ≤ 1000000000
  pub count_fits : w.count ≤ 1000000000
  pub finish_fits : Timed w.finish
