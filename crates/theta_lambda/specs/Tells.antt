-- What the root of a tree of white and grey leaves tells. Assumes nothing.
use Rattle.std.specs.Prelude.{◌≡◌, ℕ, ◌+◌, ◌<◌, ◌≤◌, true, false, cond, List, is_some, Some, None, Ok, Option, Result, ◌≢◌}
use Rattle.theta_nodes.specs.declared.grey.Grey.{Grey}
use Rattle.theta.specs.declared.refusals.TreeRefusal.{TreeRefusal}
use Rattle.theta_nodes.specs.Grey.{rank}
use Rattle.theta_nodes.specs.Leaves.{Leaf, InLimits, is_grey, duration, with_white, white_root, grey_tree}

-- g is the lowest grey place at which f gives top
pub record Lowest {X : Type 0} (leaves : ℕ → Leaf) (f : ℕ → X) (top : X) (g : ℕ) : Type 0 where
  pub inside : g < 32
  pub at_a_grey_leaf : is_grey (leaves g) ≡ true
  pub gives_it : f g ≡ top
  pub none_lower : (h : ℕ) → h < g → is_grey (leaves h) ≡ true → f h ≢ top

-- top is the greatest of base and of f at the grey places, in the order of their ranks;
-- the place is none where that is base, and else the lowest grey place that gives it
pub record Greatest {X : Type 0} (rank_of : X → ℕ) (leaves : ℕ → Leaf) (f : ℕ → X) (base top : X) (place : Option ℕ) : Type 0 where
  pub not_below_base : rank_of base ≤ rank_of top
  pub not_below_a_grey : (g : ℕ) → g < 32 → is_grey (leaves g) ≡ true → rank_of (f g) ≤ rank_of top
  pub none_where_base : top ≡ base → place ≡ None
  pub base_where_none : place ≡ None → top ≡ base
  pub lowest_that_gives_it : (g : ℕ) → place ≡ Some g → Lowest leaves f top g

-- what a root x tells of the leaves, against the trees of white leaves alone
pub record Tells (b : ℕ → ℕ) (leaves : ℕ → Leaf) (x : Grey) : Type 0 where
  -- P, n, e are those of the white leaves
  pub white_part : x.white ≡ white_root b leaves
  -- e' is the greatest of e and of the finish with one grey leaf made white, and the responsible place is the lowest that gives it
  pub finish_greatest : Greatest rank leaves (λ g. (white_root b (with_white g leaves)).finish) (white_root b leaves).finish x.grey.finish x.responsible
  -- P' is the greatest of P and of P with what one grey leaf lasts, and the heaviest place is the lowest that gives it
  pub total_greatest : Greatest (λ n. n) leaves (λ g. (white_root b leaves).total + duration (leaves g)) (white_root b leaves).total x.grey.total x.heaviest
  -- there is a heaviest place where there is a grey leaf, and only there
  pub heaviest_with_a_grey : (g : ℕ) → g < 32 → is_grey (leaves g) ≡ true → is_some x.heaviest ≡ true
  pub no_heaviest_without : ((g : ℕ) → g < 32 → is_grey (leaves g) ≡ false) → x.heaviest ≡ None
  -- n' is one more than n where there is a grey leaf
  pub count_is : x.grey.count ≡ (white_root b leaves).count + cond (is_some x.heaviest) 1 0

-- if the nodes are the tree of any leaves in their limits, the answer is a root that tells of them
abbrev pub Told : (ℕ → ℕ) → List Grey → Result Grey TreeRefusal → Type 0
Told b nodes answer = (leaves : ℕ → Leaf) → ((p : ℕ) → p < 32 → InLimits (leaves p)) → nodes ≡ grey_tree b leaves → (x : Grey) × (answer ≡ Ok x) × Tells b leaves x
