-- When 63 nodes are the tree of 32 leaves, said node by node, and what keeps it so. Assumes nothing.
use Rattle.std.proofs.Common.{◌≡◌, ℕ, zero, suc, ◌+◌, ◌*◌, ◌/◌, ◌<◌, ◌≤◌, ◌≢◌, List, length, get_or, set, sym, refl, ap, ◌∙◌, subst, inl, inr, arith, length-set, get_or-set_other, get_or-set_same}
use lib.ListN.{length-replicate, get_or-replicate}
use Rattle.std.proofs.lemmas.Bool.{cases_eq}
use Rattle.theta.specs.Tree.{above, rejoined, climbed, replaced, cleared, Elsewhere}
use Rattle.theta.specs.Runs.{bare}
use Rattle.theta.proofs.Trees.{cleared_length, cleared_at}

-- each leaf is the leaf of its place, and each other node is the join of its two children
pub record Built {N : Type 0} (none : N) (join : N → N → N) (nodes leaves : List N) : Type 0 where
  pub size : length nodes ≡ 63
  pub width : length leaves ≡ 32
  pub at_leaf : (p : ℕ) → p < 32 → get_or nodes (31 + p) none ≡ get_or leaves p none
  pub at_join : (i : ℕ) → i < 31 → get_or nodes i none ≡ join (get_or nodes (2 * i + 1) none) (get_or nodes (2 * i + 2) none)

-- every node above a leaf is an inner one
pub above_inner : (k p : ℕ) → p < 32 → above (suc k) p < 31
unfolding above
above_inner zero p h = omega arith
above_inner (suc k) p h = let a = above_inner k p h in omega arith

pub above_one : (p : ℕ) → above 1 p ≡ 15 + p / 2
unfolding above
above_one p = omega arith

pub above_root : (p : ℕ) → p < 32 → above 5 p ≡ 0
unfolding above
above_root p h = omega arith

-- below the root, the next node up is the parent
pub above_low : (k p : ℕ) → p < 32 → k < 5 → 0 < above k p
unfolding above
above_low zero p h kh = omega arith
above_low (suc zero) p h kh = omega arith
above_low (suc (suc zero)) p h kh = omega arith
above_low (suc (suc (suc zero))) p h kh = omega arith
above_low (suc (suc (suc (suc zero)))) p h kh = omega arith
above_low (suc (suc (suc (suc (suc k))))) p h kh = absurd (omega arith)

above_parent : (k p : ℕ) → p < 32 → k < 5 → (2 * above (suc k) p + 1 ≤ above k p) × (above k p ≤ 2 * above (suc k) p + 2)
unfolding above
above_parent k p h kh = let a = above_low k p h kh in (omega arith, omega arith)

module _ {N : Type 0} (none : N) (join : N → N → N) where
  abbrev Local : List N → ℕ → Type 0
  Local xs j = get_or xs j none ≡ join (get_or xs (2 * j + 1) none) (get_or xs (2 * j + 2) none)

  -- every inner node but q is the join of its children
  abbrev But : List N → ℕ → Type 0
  But xs q = (j : ℕ) → j < 31 → j ≢ q → Local xs j

  -- a write at i leaves the join at j, where i is neither j nor a child of it
  local_other : (xs : List N) (i j : ℕ) (x : N) → j ≢ i → 2 * j + 1 ≢ i → 2 * j + 2 ≢ i → Local xs j → Local (set xs i x) j
  local_other xs i j x n0 n1 n2 h =
      let e0 = get_or-set_other xs i j x none n0 in
      let e1 = get_or-set_other xs i (2 * j + 1) x none n1 in
      let e2 = get_or-set_other xs i (2 * j + 2) x none n2 in
      cc

  rejoined_length : (xs : List N) (q : ℕ) → length (rejoined none join xs q) ≡ length xs
  rejoined_length xs q = simp length-set

  rejoined_other : (xs : List N) (q i : ℕ) → i ≢ q → get_or (rejoined none join xs q) i none ≡ get_or xs i none
  rejoined_other xs q i ne = get_or-set_other xs q i _ none ne

  rejoined_here : (xs : List N) (q : ℕ) → length xs ≡ 63 → q < 31 → Local (rejoined none join xs q) q
  rejoined_here xs q size h =
      let x : N = join (get_or xs (2 * q + 1) none) (get_or xs (2 * q + 2) none) in
      let e0 = get_or-set_same xs q x none (omega arith) in
      let e1 = get_or-set_other xs q (2 * q + 1) x none (omega arith) in
      let e2 = get_or-set_other xs q (2 * q + 2) x none (omega arith) in
      cc

  rejoined_local : (xs : List N) (q j : ℕ) → j ≢ q → 2 * j + 1 ≢ q → 2 * j + 2 ≢ q → Local xs j → Local (rejoined none join xs q) j
  rejoined_local xs q j n0 n1 n2 h = local_other xs q j _ n0 n1 n2 h

  -- one step up: q is joined again, and only its parent u is left
  rise : (xs : List N) (q u : ℕ) → length xs ≡ 63 → q < 31 → 2 * u + 1 ≤ q → q ≤ 2 * u + 2 → But xs q → But (rejoined none join xs q) u
  rise xs q u size h lo hi but j jh ne =
      elim (cases_eq j q) [
        | inl e ↦ subst (Local (rejoined none join xs q)) (sym e) (rejoined_here xs q size h)
        | inr n ↦ rejoined_local xs q j n (omega arith) (omega arith) (but j jh n)
      ]

  -- the root: nothing is left
  top : (xs : List N) → length xs ≡ 63 → But xs 0 → (j : ℕ) → j < 31 → Local (rejoined none join xs 0) j
  top xs size but j jh =
      elim (cases_eq j 0) [
        | inl e ↦ subst (Local (rejoined none join xs 0)) (sym e) (rejoined_here xs 0 size (omega arith))
        | inr n ↦ rejoined_local xs 0 j n (omega arith) (omega arith) (but j jh n)
      ]

  climbed_length : (xs : List N) (p k : ℕ) → length (climbed none join xs p k) ≡ length xs
  unfolding climbed
  climbed_length xs p zero = refl
  climbed_length xs p (suc k) = rejoined_length (climbed none join xs p k) (above (suc k) p) ∙ climbed_length xs p k

  climbed_leaf : (xs : List N) (p k i : ℕ) → p < 32 → 31 ≤ i → get_or (climbed none join xs p k) i none ≡ get_or xs i none
  unfolding climbed
  climbed_leaf xs p zero i ph ih = refl
  climbed_leaf xs p (suc k) i ph ih =
      let a = above_inner k p ph in
      rejoined_other (climbed none join xs p k) (above (suc k) p) i (omega arith) ∙ climbed_leaf xs p k i ph ih

  -- after k levels only the node one level up is left
  climbed_but : (xs : List N) (p k : ℕ) → length xs ≡ 63 → p < 32 → k < 5 → But xs (above 1 p) → But (climbed none join xs p k) (above (suc k) p)
  unfolding climbed
  climbed_but xs p zero size ph kh but = but
  climbed_but xs p (suc k) size ph kh but =
      let a = above_parent (suc k) p ph (omega arith) in
      rise (climbed none join xs p k) (above (suc k) p) (above (suc (suc k)) p) (climbed_length xs p k ∙ size) (above_inner k p ph) a.0 a.1
      (climbed_but xs p k size ph (omega arith) but)

  climbed_local : (xs : List N) (p : ℕ) → length xs ≡ 63 → p < 32 → But xs (above 1 p) → (j : ℕ) → j < 31 → Local (climbed none join xs p 5) j
  unfolding climbed
  climbed_local xs p size ph but =
      let root : above 5 p ≡ 0 = above_root p ph in
      let ys : List N = climbed none join xs p 4 in
      let b4 : But ys 0 = subst (But ys) root (climbed_but xs p 4 size ph (omega arith) but) in
      subst (λ q. (j : ℕ) → j < 31 → Local (rejoined none join ys q) j) (sym root) (top ys (climbed_length xs p 4 ∙ size) b4)

  climbed_other : (xs : List N) (p k i : ℕ) → ((j : ℕ) → j ≤ k → i ≡ above j p → ⊥) → get_or (climbed none join xs p k) i none ≡ get_or xs i none
  unfolding climbed
  climbed_other xs p zero i off = refl
  climbed_other xs p (suc k) i off =
      rejoined_other (climbed none join xs p k) (above (suc k) p) i (off (suc k) (omega arith)) ∙ climbed_other xs p k i (λ j h. off j (omega arith))

  -- the other nodes are as they were
  pub replaced_other : (xs ys : List N) (p : ℕ) (x : N) → ys ≡ replaced none join xs p x → Elsewhere none xs ys p
  unfolding replaced above
  replaced_other xs ys p x e i off =
      ap (λ zs. get_or zs i none) e ∙ climbed_other (set xs (31 + p) x) p 5 i off ∙ get_or-set_other xs (31 + p) i x none (off 0 (omega arith))

  replaced_leaf : (xs leaves : List N) (p : ℕ) (x : N) → Built none join xs leaves → p < 32 → (k : ℕ) → k < 32 → get_or (replaced none join xs p x) (31 + k) none ≡ get_or (set leaves p x) k none
  unfolding replaced
  replaced_leaf xs leaves p x b ph k kh =
      let up = climbed_leaf (set xs (31 + p) x) p 5 (31 + k) ph (omega arith) in
      elim (cases_eq k p) [
        | inl e ↦
            let e0 : get_or (set xs (31 + p) x) (31 + p) none ≡ x = get_or-set_same xs (31 + p) x none (omega (arith, b.size)) in
            let e1 : get_or (set leaves p x) p none ≡ x = get_or-set_same leaves p x none (omega (arith, b.width)) in
            cc
        | inr n ↦
            let e0 : get_or (set xs (31 + p) x) (31 + k) none ≡ get_or xs (31 + k) none = get_or-set_other xs (31 + p) (31 + k) x none (omega arith) in
            let e1 : get_or (set leaves p x) k none ≡ get_or leaves k none = get_or-set_other leaves p k x none n in
            let e2 = b.at_leaf k kh in
            cc
      ]

  pub replaced_built : (xs leaves : List N) (p : ℕ) (x : N) → p < 32 → Built none join xs leaves → Built none join (replaced none join xs p x) (set leaves p x)
  unfolding replaced
  replaced_built xs leaves p x ph b =
      let ys : List N = set xs (31 + p) x in
      let size : length ys ≡ 63 = length-set xs (31 + p) x ∙ b.size in
      let one = above_one p in
      let but : But ys (above 1 p) = λ j jh ne. local_other xs (31 + p) j x (omega arith) (omega arith) (omega arith) (b.at_join j jh) in
      record {
        size = climbed_length ys p 5 ∙ size;
        width = length-set leaves p x ∙ b.width;
        at_leaf = replaced_leaf xs leaves p x b ph;
        at_join = climbed_local ys p size ph but;
      }

  bare_length : length (bare none) ≡ 32
  unfolding bare
  bare_length = length-replicate 32 none

  bare_at : (i : ℕ) → i < 32 → get_or (bare none) i none ≡ none
  unfolding bare
  bare_at i h = get_or-replicate 32 i none none h

  pub cleared_built : join none none ≡ none → Built none join (cleared none) (bare none)
  cleared_built neutral = record {
    size = cleared_length none;
    width = bare_length;
    at_leaf = λ p h. cleared_at none (31 + p) (omega arith) ∙ sym (bare_at p h);
    at_join = λ i h.
        let e0 = cleared_at none i (omega arith) in
        let e1 = cleared_at none (2 * i + 1) (omega arith) in
        let e2 = cleared_at none (2 * i + 2) (omega arith) in
        cc;
  }
