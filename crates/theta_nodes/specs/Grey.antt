-- The node of white and grey leaves: besides the white part it has P', n', e', which count one grey leaf as well,
-- the responsible place and the lowest grey place that gives P'. Assumes nothing.
use Rattle.std.specs.Prelude.{◌≡◌, ℕ, suc, ◌+◌, ◌≤◌, min, max, Bool, false, cond, not, ◌&&◌, ◌||◌, is_some, Some, None, Option, ◌==◌, nat_le}
use Rattle.theta_nodes.specs.declared.white.White.{White}
use Rattle.theta_nodes.specs.declared.grey.Grey.{Grey}
use Rattle.theta_nodes.specs.White.{capped, later, after, empty_white, white_leaf, white_join, Sound}

-- a time as a number, with none below all
abbrev pub rank : Option ℕ → ℕ
rank None = 0
rank (Some t) = suc t

-- two times are the same
abbrev pub same : Option ℕ → Option ℕ → Bool
same x y = rank x == rank y

-- the place, where the test holds
abbrev pub only : Bool → Option ℕ → Option ℕ
only test place = cond test place None

-- the lower of two places, or the one that there is
abbrev pub lower : Option ℕ → Option ℕ → Option ℕ
lower None q = q
lower (Some p) None = Some p
lower (Some p) (Some q) = Some (min p q)

-- white leaves only: the grey part repeats the white one
abbrev pub all_white : White → Grey
all_white w = record { white = w; grey = w; responsible = None; heaviest = None }

-- a grey leaf w, not told its place yet
abbrev pub all_grey : White → Grey
all_grey w = record { white = empty_white; grey = w; responsible = Some 0; heaviest = Some 0 }

-- the empty node: no white leaf, no grey one
abbrev pub empty_grey : Grey
empty_grey = all_white empty_white

-- a white leaf
abbrev pub white_leaf_in : ℕ → ℕ → Grey
white_leaf_in duration finish = all_white (white_leaf duration finish)

-- a grey leaf
abbrev pub grey_leaf : ℕ → ℕ → Grey
grey_leaf duration finish = all_grey (white_leaf duration finish)

-- whether x is a white leaf: a count of 1, a finish, and no grey leaf
abbrev pub is_white_leaf : Grey → Bool
is_white_leaf x = x.white.count == 1 && (is_some x.white.finish && not (is_some x.heaviest))

-- a white leaf turned grey; any other node is kept
abbrev pub turned_grey : Grey → Grey
turned_grey x = cond (is_white_leaf x) (all_grey x.white) x

-- this place, where there is one
abbrev pub told : ℕ → Option ℕ → Option ℕ
told p None = None
told p (Some q) = Some p

-- a leaf once it is told its place
abbrev pub grey_placed : ℕ → Grey → Grey
grey_placed p x = record { white = x.white; grey = x.grey; responsible = told p x.responsible; heaviest = told p x.heaviest }

-- el + Pr' + b(nr'): a grey leaf of the right part counts, after the left part's white leaves
abbrev pub across : (ℕ → ℕ) → Grey → Grey → Option ℕ
across b l r = after l.white.finish (r.grey.total + b r.grey.count)

-- el' + Pr + b(nr): a grey leaf of the left part counts
abbrev pub along : (ℕ → ℕ) → Grey → Grey → Option ℕ
along b l r = after l.grey.finish (r.white.total + b r.white.count)

-- e': the greatest of er', el + Pr' + b(nr') and el' + Pr + b(nr)
abbrev pub grey_finish : (ℕ → ℕ) → Grey → Grey → Option ℕ
grey_finish b l r = later (later r.grey.finish (across b l r)) (along b l r)

-- P': the greater of Pl' + Pr and Pl + Pr'
abbrev pub grey_total : Grey → Grey → ℕ
grey_total l r = max (capped (l.grey.total + r.white.total)) (capped (l.white.total + r.grey.total))

-- n': one more than n where a grey leaf lies below
abbrev pub grey_count : ℕ → Option ℕ → Option ℕ → ℕ
grey_count n p q = cond (is_some p || is_some q) (capped (n + 1)) n

-- the left part's heaviest place, where it has one and Pl' + Pr is not below Pl + Pr'; else the right part's
abbrev pub heavier : Grey → Grey → Option ℕ
heavier l r = cond (is_some l.heaviest && nat_le (l.white.total + r.grey.total) (l.grey.total + r.white.total)) l.heaviest r.heaviest

-- none where e' is e; else the left part's place where el' + Pr + b(nr) is e';
-- else the lower of the right part's responsible place, where er' is e', and its heaviest, where el + Pr' + b(nr') is e'
abbrev pub blamed : Option ℕ → Option ℕ → Option ℕ → Option ℕ → Grey → Grey → Option ℕ
blamed e e' left right l r =
    cond (same e' e) None (cond (same left e') l.responsible (lower (only (same r.grey.finish e') r.responsible) (only (same right e') r.heaviest)))

-- the join of left l and right r
unfoldable pub grey_join : (ℕ → ℕ) → Grey → Grey → Grey
grey_join b l r = record {
  white = white_join b l.white r.white;
  grey = record {
    total = grey_total l r;
    count = grey_count (white_join b l.white r.white).count l.heaviest r.heaviest;
    finish = grey_finish b l r;
  };
  responsible = blamed (white_join b l.white r.white).finish (grey_finish b l r) (along b l r) (across b l r) l r;
  heaviest = heavier l r;
}

-- what is true of every node of a tree of leaves
pub record GreySound (x : Grey) : Type 0 where
  pub white_sound : Sound x.white
  pub grey_sound : Sound x.grey
  pub total_least : x.white.total ≤ x.grey.total
  pub total_same : is_some x.heaviest ≡ false → x.grey.total ≡ x.white.total
  pub count_is : x.grey.count ≡ cond (is_some x.heaviest) (capped (x.white.count + 1)) x.white.count
  pub finish_least : rank x.white.finish ≤ rank x.grey.finish
  pub none_where_same : rank x.grey.finish ≡ rank x.white.finish → x.responsible ≡ None
