-- 63 empty nodes. Assumes nothing.
use Rattle.std.proofs.Common.{◌≡◌, ℕ, ◌<◌, List, length, get_or, sym, ◌∙◌, arith, ext_get_or}
use lib.ListN.{length-replicate, get_or-replicate}
use Rattle.theta.specs.Tree.{cleared}

pub cleared_length : {N : Type 0} (none : N) → length (cleared none) ≡ 63
unfolding cleared
cleared_length none = length-replicate 63 none

pub cleared_at : {N : Type 0} (none : N) (i : ℕ) → i < 63 → get_or (cleared none) i none ≡ none
unfolding cleared
cleared_at none i h = get_or-replicate 63 i none none h

-- 63 nodes that are all empty
pub cleared_is : {N : Type 0} (none : N) (xs : List N) → length xs ≡ 63 → ((k : ℕ) → k < 63 → get_or xs k none ≡ none) → xs ≡ cleared none
cleared_is none xs size all =
    ext_get_or none xs (cleared none) (size ∙ sym (cleared_length none)) (λ i h. all i (omega arith) ∙ sym (cleared_at none i (omega arith)))
