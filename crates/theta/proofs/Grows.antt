-- The root of a tree that is worked out afresh, as a recursion on its depth. Assumes nothing.
use Rattle.std.proofs.Common.{◌≡◌, ℕ, zero, suc, ◌+◌, ◌^◌, get_or, refl}
use Rattle.theta.specs.Tree.{paired, level, grown, row}

-- the node of depth k over the 2^k places from p
unfoldable pub grow : {N : Type 0} → (N → N → N) → (ℕ → N) → ℕ → ℕ → N
grow join leaf zero p = leaf p
grow join leaf (suc k) p = join (grow join leaf k p) (grow join leaf k (p + 2 ^ k))

pub root_is : {N : Type 0} (none : N) (join : N → N → N) (leaf : ℕ → N) → get_or (grown join (row leaf)) 0 none ≡ grow join leaf 5 0
unfolding grown level paired row grow
root_is none join leaf = refl
