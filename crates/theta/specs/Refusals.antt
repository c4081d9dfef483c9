-- What is answered where the answer may be a refusal. Assumes nothing.
use Rattle.std.specs.Prelude.{ℕ, cond, ◌&&◌, Ok, Err, Result, ◌==◌, nat_le}
use Rattle.theta.specs.declared.refusals.LeafRefusal.{LeafRefusal}
use Rattle.theta.specs.declared.refusals.LeafRefusal.TheVariants.{Duration, Finish}
use Rattle.theta.specs.declared.refusals.TreeRefusal.{TreeRefusal}
use Rattle.theta.specs.declared.refusals.TreeRefusal.TheVariants.{Size, Place}

-- the number of a leaf's refusal
abbrev pub leaf_number : LeafRefusal → ℕ
leaf_number (Duration d) = 9
leaf_number (Finish f) = 10

-- x where the duration is 1 to 100,000 and the finish at most 1,000,000; else the first that is not
abbrev pub leaf_answer : {X : Type 0} → ℕ → ℕ → X → Result X LeafRefusal
leaf_answer d f x = cond (nat_le 1 d && nat_le d 100000) (cond (nat_le f 1000000) (Ok x) (Err (Finish f))) (Err (Duration d))

-- x where so many nodes are a tree
abbrev pub sized : {X : Type 0} → ℕ → X → Result X TreeRefusal
sized many x = cond (many == 63) (Ok x) (Err (Size many))

-- x where so many nodes are a tree, and this is a place of it
abbrev pub seated : {X : Type 0} → ℕ → ℕ → X → Result X TreeRefusal
seated many place x = cond (many == 63) (cond (nat_le place 31) (Ok x) (Err (Place place))) (Err (Size many))
