-- A tree that is built is the tree worked out afresh. Assumes nothing.
use Rattle.std.proofs.Common.{◌≡◌, ℕ, zero, suc, ◌+◌, ◌-◌, ◌*◌, ◌<◌, ◌≤◌, List, [], ◌∷◌, ◌++◌, length, get_or, sym, refl, ap, ◌∙◌, inl, inr, arith, length-append, ext_get_or}
use Rattle.std.proofs.lemmas.Bool.{cases_lt}
use Rattle.std.proofs.lemmas.List.{get_or_append_left, get_or-append_right}
use Rattle.theta.specs.Tree.{paired, level, grown}
use Rattle.theta.proofs.Builts.{Built}

module _ {N : Type 0} (none : N) (join : N → N → N) where
  paired_length : (l : List N) (m : ℕ) → length l ≡ 2 * m → length (paired join l) ≡ m
  unfolding paired
  paired_length [] m e = omega arith
  paired_length (x ∷ []) m e = absurd (omega arith)
  paired_length (x ∷ (y ∷ zs)) m e = let h = paired_length zs (m - 1) (omega arith) in omega arith

  paired_at : (l : List N) (j : ℕ) → 2 * j + 1 < length l → get_or (paired join l) j none ≡ join (get_or l (2 * j) none) (get_or l (2 * j + 1) none)
  unfolding paired
  paired_at [] j h = absurd (omega arith)
  paired_at (x ∷ []) j h = absurd (omega arith)
  paired_at (x ∷ (y ∷ zs)) zero h = refl
  paired_at (x ∷ (y ∷ zs)) (suc j) h =
      let e0 : 2 * suc j ≡ suc (suc (2 * j)) = omega arith in
      let e1 : 2 * suc j + 1 ≡ suc (suc (2 * j + 1)) = omega arith in
      rw (e1, e0) (paired_at zs j (omega arith))

  -- the nodes from o on are the list l
  abbrev From : List N → ℕ → List N → Type 0
  From xs o l = (j : ℕ) → j < length l → get_or xs (o + j) none ≡ get_or l j none

  from_append : (xs : List N) (o n : ℕ) (a b : List N) → length a ≡ n → From xs o a → From xs (o + n) b → From xs o (a ++ b)
  from_append xs o n a b e fa fb j h =
      elim (cases_lt j (length a)) [
        | inl lt ↦ fa j lt ∙ sym (get_or_append_left a b none j lt)
        | inr ge ↦
            let k : j - n < length b = omega (arith, length-append a b) in
            let s : (o + n) + (j - n) ≡ o + j = omega arith in
            let r = get_or-append_right a b n j none e (omega arith) in
            ap (λ i. get_or xs i none) (sym s) ∙ fb (j - n) k ∙ sym r
      ]

  module _ (xs leaves : List N) (b : Built none join xs leaves) where
    -- one level up: it starts at o, and the level below it at 2 * o + 1
    up : (o m : ℕ) (l : List N) → length l ≡ 2 * m → o + m ≤ 31 → From xs (2 * o + 1) l → From xs o (paired join l)
    up o m l e small f j h =
        let n = paired_length l m e in
        let here = b.at_join (o + j) (omega arith) in
        let e1 : 2 * (o + j) + 1 ≡ (2 * o + 1) + 2 * j = omega arith in
        let e2 : 2 * (o + j) + 2 ≡ (2 * o + 1) + (2 * j + 1) = omega arith in
        let g1 = f (2 * j) (omega arith) in
        let g2 = f (2 * j + 1) (omega arith) in
        let p = paired_at l j (omega arith) in
        cc

    pub built_grown : xs ≡ grown join leaves
    unfolding grown level
    built_grown =
        let l0 : List N = leaves in
        let f0 : From xs 31 l0 = λ j h. b.at_leaf j (omega (arith, b.width)) in
        let l1 : List N = paired join l0 in
        let n1 : length l1 ≡ 16 = paired_length l0 16 b.width in
        let f1 : From xs 15 l1 = up 15 16 l0 b.width (omega arith) f0 in
        let l2 : List N = paired join l1 in
        let n2 : length l2 ≡ 8 = paired_length l1 8 n1 in
        let f2 : From xs 7 l2 = up 7 8 l1 n1 (omega arith) f1 in
        let l3 : List N = paired join l2 in
        let n3 : length l3 ≡ 4 = paired_length l2 4 n2 in
        let f3 : From xs 3 l3 = up 3 4 l2 n2 (omega arith) f2 in
        let l4 : List N = paired join l3 in
        let n4 : length l4 ≡ 2 = paired_length l3 2 n3 in
        let f4 : From xs 1 l4 = up 1 2 l3 n3 (omega arith) f3 in
        let l5 : List N = paired join l4 in
        let n5 : length l5 ≡ 1 = paired_length l4 1 n4 in
        let f5 : From xs 0 l5 = up 0 1 l4 n4 (omega arith) f4 in
        let a1 : From xs 15 (l1 ++ l0) = from_append xs 15 16 l1 l0 n1 f1 f0 in
        let a2 : From xs 7 (l2 ++ (l1 ++ l0)) = from_append xs 7 8 l2 (l1 ++ l0) n2 f2 a1 in
        let a3 : From xs 3 (l3 ++ (l2 ++ (l1 ++ l0))) = from_append xs 3 4 l3 _ n3 f3 a2 in
        let a4 : From xs 1 (l4 ++ (l3 ++ (l2 ++ (l1 ++ l0)))) = from_append xs 1 2 l4 _ n4 f4 a3 in
        let a5 : From xs 0 (l5 ++ (l4 ++ (l3 ++ (l2 ++ (l1 ++ l0))))) = from_append xs 0 1 l5 _ n5 f5 a4 in
        let size : length (l5 ++ (l4 ++ (l3 ++ (l2 ++ (l1 ++ l0))))) ≡ 63 = simp length-append (omega (arith, b.width)) in
        ext_get_or none xs (l5 ++ (l4 ++ (l3 ++ (l2 ++ (l1 ++ l0))))) (b.size ∙ sym size)
        (λ i h. let z : 0 + i ≡ i = omega arith in ap (λ k. get_or xs k none) (sym z) ∙ a5 i (omega (arith, b.size)))
