-- The leaves of a tree as a row, and what one write does to it. Assumes nothing.
use Rattle.std.proofs.Common.{◌≡◌, ℕ, ◌+◌, ◌<◌, ◌≤◌, ◌≢◌, List, length, get_or, set, Some, None, Option, sym, refl, ap, ◌∙◌, ⊎_elim, arith, length-set, get_or-drop, get_or-set_other, get_or-set_same, ext_get_or}
use Rattle.std.proofs.lemmas.Bool.{cases_eq}
use Rattle.std.proofs.lemmas.List.FromFn.{length-map-range_with_len, get_or-map-range_with_len}
use Rattle.theta.specs.Tree.{paired, level, grown, row}
use Rattle.theta.specs.Runs.{bare, Call, Run, then, comes, seat, leaves_after, Stands, Follows}
use Rattle.rules.specs.Faces.{Face}
use Rattle.rules.specs.Places.{place}
use Rattle.rules.proofs.Seats.{at_place, place_below, place_found, place_finds}

module _ {N : Type 0} where
  pub row_long : (f : ℕ → N) → length (row f) ≡ 32
  unfolding row
  row_long f = length-map-range_with_len f 0 32

  pub row_at : (f : ℕ → N) (p : ℕ) (d : N) → p < 32 → get_or (row f) p d ≡ f p
  unfolding row
  row_at f p d h = get_or-map-range_with_len f 0 32 p p d h (omega arith)

  -- equal leaves give equal rows
  pub row_same : (f g : ℕ → N) → ((p : ℕ) → f p ≡ g p) → row f ≡ row g
  row_same f g h = ext_get_or (f 0) (row f) (row g) (row_long f ∙ sym (row_long g)) (λ p l. let l' : p < 32 = omega (arith, row_long f) in row_at f p (f 0) l' ∙ h p ∙ sym (row_at g p (f 0) l'))

  -- a row with one leaf written
  pub row_set : (f g : ℕ → N) (p : ℕ) (y : N) → p < 32 → g p ≡ y → ((q : ℕ) → q ≢ p → g q ≡ f q) → set (row f) p y ≡ row g
  row_set f g p y h here there =
      ext_get_or y (set (row f) p y) (row g) (length-set (row f) p y ∙ row_long f ∙ sym (row_long g))
      (λ q l.
      let l' : q < 32 = omega (arith, row_long f, length-set (row f) p y) in
      ⊎_elim
      (λ e. ap (λ k. get_or (set (row f) p y) k y) e ∙ get_or-set_same (row f) p y y (omega (arith, row_long f)) ∙ sym here ∙ ap g (sym e) ∙ sym (row_at g q y l'))
      (λ d. get_or-set_other (row f) p q y y d ∙ row_at f q y l' ∙ sym (there q d) ∙ sym (row_at g q y l'))
      (cases_eq q p))

  -- the leaf that a tree has at a place
  pub grown_leaf : (join : N → N → N) (f : ℕ → N) (p : ℕ) (d : N) → p < 32 → get_or (grown join (row f)) (31 + p) d ≡ f p
  unfolding grown level paired row
  grown_leaf join f p d h = sym (get_or-drop 31 (grown join (row f)) p d) ∙ row_at f p d h

  -- a tree of empty leaves
  pub bare_row : (none : N) (f : ℕ → N) → ((p : ℕ) → f p ≡ none) → bare none ≡ row f
  unfolding bare row
  bare_row none f h = sym (row_same f (λ _. none) h)

  -- the same leaves for the same jobs
  pub seat_same : (F : Face) (node node' : ℕ → Option ℕ → N) → ((p : ℕ) → node' p None ≡ node p None) → ((p k : ℕ) → k < F.n → place F k ≡ p → node' p (Some k) ≡ node p (Some k)) → (p : ℕ) → node' p (at_place F p) ≡ node p (at_place F p)
  seat_same F node node' none some p = each (at_place F p) refl
    where
      each : (o : Option ℕ) → at_place F p ≡ o → node' p (at_place F p) ≡ node p (at_place F p)
      each None e = ap (node' p) e ∙ none p ∙ ap (node p) (sym e)
      each (Some k) e = ap (node' p) e ∙ (let w = place_found F p k e in some p k w.0 w.1) ∙ ap (node p) (sym e)

  module _ (F : Face) (few : F.n ≤ 32) (node node' : ℕ → Option ℕ → N) where
    -- one job's leaf is written, and the others stay
    pub seat_set : (j : ℕ) → j < F.n → ((p : ℕ) → node' p None ≡ node p None) → ((p k : ℕ) → k < F.n → k ≢ j → node' p (Some k) ≡ node p (Some k)) → set (row (λ p. node p (at_place F p))) (place F j) (node' (place F j) (Some j)) ≡ row (λ p. node' p (at_place F p))
    seat_set j hj none some =
        row_set (λ p. node p (at_place F p)) (λ p. node' p (at_place F p)) (place F j) (node' (place F j) (Some j)) (omega (arith, place_below F j hj)) (ap (node' (place F j)) (place_finds F (place F j) j hj refl)) (λ q d. other q d (at_place F q) refl)
      where
        other : (q : ℕ) → q ≢ place F j → (o : Option ℕ) → at_place F q ≡ o → node' q (at_place F q) ≡ node q (at_place F q)
        other q d None e = ap (node' q) e ∙ none q ∙ ap (node q) (sym e)
        other q d (Some k) e = let w = place_found F q k e in ap (node' q) e ∙ some q k w.0 (λ x. d (sym w.1 ∙ ap (place F) x)) ∙ ap (node q) (sym e)

    -- what a call at a job's place makes of the leaves, after any run
    pub seat_step : (none : N) (placed : ℕ → N → N) (turned : N → N) (join : N → N → N) (before after : List N) (c : Call N) (j : ℕ) → j < F.n → seat c ≡ place F j → comes none placed turned c (node (place F j) (Some j)) ≡ node' (place F j) (Some j) → ((p : ℕ) → node' p None ≡ node p None) → ((p k : ℕ) → k < F.n → k ≢ j → node' p (Some k) ≡ node p (Some k)) → Follows none placed turned join before after c → (run : Run N) → Stands none placed turned join before run → leaves_after none placed turned join run ≡ row (λ p. node p (at_place F p)) → Stands none placed turned join after (then run c) × (leaves_after none placed turned join (then run c) ≡ row (λ p. node' p (at_place F p)))
    seat_step none placed turned join before after c j hj at becomes same others follows run stands leaves_are =
        let here : get_or (row (λ p. node p (at_place F p))) (place F j) none ≡ node (place F j) (Some j) =
        row_at (λ p. node p (at_place F p)) (place F j) none (omega (arith, place_below F j hj)) ∙ ap (node (place F j)) (place_finds F (place F j) j hj refl) in (
          follows.after_any_run run stands.stepwise,
          ap (λ xs. set xs (seat c) (comes none placed turned c (get_or xs (seat c) none))) leaves_are
              ∙ ap (λ q. set (row (λ p. node p (at_place F p))) q (comes none placed turned c (get_or (row (λ p. node p (at_place F p))) q none))) at
              ∙ ap (set (row (λ p. node p (at_place F p))) (place F j)) (ap (comes none placed turned c) here ∙ becomes)
              ∙ seat_set j hj same others,
        )
