-- After any run of calls the tree is the one worked out afresh. Assumes nothing.
use Rattle.std.proofs.Common.{◌≡◌, ℕ, ◌+◌, ◌<◌, ◌≤◌, eqb, leb, List, length, get_or, set, sym, ap, ◌∙◌, subst, ⊎_elim, arith}
use Rattle.std.proofs.lemmas.Bool.{cases_lt, cond-true, cond-false, eq-eqb, le-leb, lt-leb}
use Rattle.std.proofs.lemmas.List.{set_past}
use Rattle.theta.specs.Tree.{replaced, stepped, cleared}
use Rattle.theta.specs.Runs.{Call, Run, start, then, comes, seat, tree_after, leaves_after, Stands, Begins, Follows}
use Rattle.theta.proofs.Builts.{Built, replaced_built, cleared_built}
use Rattle.theta.proofs.Growns.{built_grown}

module _ {N : Type 0} (none : N) (join : N → N → N) where
  pub stepped_inside : (xs : List N) (p : ℕ) (x : N) → length xs ≡ 63 → p ≤ 31 → stepped none join xs p x ≡ replaced none join xs p x
  stepped_inside xs p x size h = cond-true (eqb (length xs) 63) _ _ (eq-eqb (length xs) 63 size) ∙ cond-true (leb p 31) _ _ (le-leb p 31 h)

  stepped_past : (xs : List N) (p : ℕ) (x : N) → length xs ≡ 63 → 31 < p → stepped none join xs p x ≡ xs
  stepped_past xs p x size h = cond-true (eqb (length xs) 63) _ _ (eq-eqb (length xs) 63 size) ∙ cond-false (leb p 31) _ _ (lt-leb p 31 h)

  at_place : (xs leaves : List N) (p : ℕ) (x y : N) → (p < 32 → x ≡ y) → Built none join xs leaves → Built none join (stepped none join xs p x) (set leaves p y)
  at_place xs leaves p x y e b =
      ⊎_elim
      (λ h. subst (λ zs. Built none join zs (set leaves p y)) (sym (stepped_inside xs p x b.size (omega arith) ∙ ap (replaced none join xs p) (e h))) (replaced_built none join xs leaves p y h b))
      (λ h.
      let s : set leaves p y ≡ leaves = set_past leaves p y (omega (arith, b.width)) in
      let t : stepped none join xs p x ≡ xs = stepped_past xs p x b.size (omega arith) in
      subst (λ zs. Built none join zs (set leaves p y)) (sym t) (subst (Built none join xs) (sym s) b))
      (cases_lt p 32)

  module _ (placed : ℕ → N → N) (turned : N → N) (neutral : join none none ≡ none) where
    after_run : (run : Run N) → Built none join (tree_after none placed turned join run) (leaves_after none placed turned join run)
    after_run start = cleared_built none join neutral
    after_run (then run c) =
        let b = after_run run in
        at_place (tree_after none placed turned join run) (leaves_after none placed turned join run) (seat c) _ _ (λ h. ap (comes none placed turned c) (b.at_leaf (seat c) h)) b

    stands : (ys : List N) (run : Run N) → ys ≡ tree_after none placed turned join run → Stands none placed turned join ys run
    stands ys run e = record { stepwise = e; afresh = e ∙ built_grown none join _ _ (after_run run) }

    pub begins : (ys : List N) → ys ≡ cleared none → Begins none placed turned join ys
    begins ys e = stands ys start e

    pub follows : (xs ys : List N) (p : ℕ) (x : N) (c : Call N) → ys ≡ stepped none join xs p x → seat c ≡ p → comes none placed turned c (get_or xs (31 + p) none) ≡ x → Follows none placed turned join xs ys c
    follows xs ys p x c e ep ex =
        let y : N → N = comes none placed turned c in
        let here : ys ≡ stepped none join xs (seat c) (y (get_or xs (31 + seat c) none)) =
        e ∙ ap (stepped none join xs p) (sym ex) ∙ ap (λ q. stepped none join xs q (y (get_or xs (31 + q) none))) (sym ep) in
        record { after_any_run = λ run h. stands ys (then run c) (here ∙ ap (λ zs. stepped none join zs (seat c) (y (get_or zs (31 + seat c) none))) h) }
