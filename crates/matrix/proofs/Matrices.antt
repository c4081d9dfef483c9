-- What the questions of a matrix find. Assumes nothing.
use Rattle.std.proofs.Common.{◌≡◌, ℕ, ◌+◌, ◌*◌, ◌<◌, ◌≤◌, true, false, ◌&&◌, eqb, leb, List, length, Some, None, Ok, Option, Result, sym, refl, ap, ◌∙◌, subst, ⊎_elim, arith}
use Rattle.std.proofs.lemmas.Bool.{cond-true, cond-false, cond_both, lt-ltb, le-ltb, leb-true, leb-false, eqb-true, eqb-false, and_parts, and_cases, cases_lt}
use Rattle.matrix.specs.declared.refusals.Entry.{Entry}
use Rattle.matrix.specs.declared.refusals.Triple.{Triple}
use Rattle.matrix.specs.declared.refusals.MatrixRefusal.{MatrixRefusal}
use Rattle.matrix.specs.declared.refusals.MatrixRefusal.TheVariants.{TooGreat, Triangle}
use Rattle.matrix.specs.Matrix.{changeover, first, too_great, first_too_great, breaks, broken, first_broken, refused_or, matrix_answer, Setup, Sized, Small, Triangular, FirstTooGreat, FirstBroken, Judged}
use Rattle.matrix.proofs.Searches.{none_before, found_first}

module _ (m : ℕ) (numbers : List ℕ) where
  -- one entry
  great_none : (a b : ℕ) → changeover m numbers a b ≤ 10000 → too_great m numbers a b ≡ None
  great_none a b h = cond-false _ _ _ (le-ltb _ _ h)

  great_some : (a b : ℕ) → 10000 < changeover m numbers a b → too_great m numbers a b ≡ Some (record { from = a; to = b; minutes = changeover m numbers a b })
  great_some a b h = cond-true _ _ _ (lt-ltb _ _ h)

  great_none_is : (a b : ℕ) → too_great m numbers a b ≡ None → changeover m numbers a b ≤ 10000
  great_none_is a b e =
      ⊎_elim
      (λ h. absurd (let z : ◌≡◌ {A = ℕ} 0 1 = cc (e, great_some a b h) in omega arith))
      (λ h. h)
      (cases_lt 10000 (changeover m numbers a b))

  great_some_is : (a b : ℕ) (x : Entry) → too_great m numbers a b ≡ Some x → (10000 < changeover m numbers a b) × (x ≡ record { from = a; to = b; minutes = changeover m numbers a b })
  great_some_is a b x e =
      ⊎_elim
      (λ h. (h, cc (e, great_some a b h)))
      (λ h. absurd (let z : ◌≡◌ {A = ℕ} 0 1 = cc (e, great_none a b h) in omega arith))
      (cases_lt 10000 (changeover m numbers a b))

  none_too_great : first_too_great m numbers ≡ None → Small m numbers
  none_too_great e a b sa sb =
      great_none_is a b (none_before (too_great m numbers a) m (none_before (λ a. first (too_great m numbers a) m) m e a sa.0 sa.1) b sb.0 sb.1)

  entry_first : (x : Entry) → first_too_great m numbers ≡ Some x → FirstTooGreat m numbers x
  entry_first x e =
      let p = found_first (λ a. first (too_great m numbers a) m) m x e in
      let q = found_first (too_great m numbers p.0) m x p.3 in
      let g = great_some_is p.0 q.0 x q.3 in
      subst (FirstTooGreat m numbers) (sym g.1) (record {
        setups = ((p.1, p.2), (q.1, q.2));
        minutes = refl;
        above = g.0;
        earlier = λ a b sa sb o.
            ⊎_elim
            (λ lt. great_none_is a b (none_before (too_great m numbers a) m (p.4 a sa.0 lt) b sb.0 sb.1))
            (λ y. great_none_is a b (ap (λ i. too_great m numbers i b) y.0 ∙ q.4 b sb.0 y.1))
            o;
      })

  -- one triple
  pub passes_at : (a b c : ℕ) → false ≡ breaks m numbers (record { from = a; to = b; via = c }) → broken m numbers a b c ≡ None
  passes_at a b c e = cond-false _ _ _ (sym e)

  pub breaks_at : (a b c : ℕ) → true ≡ breaks m numbers (record { from = a; to = b; via = c }) → broken m numbers a b c ≡ Some (record { from = a; to = b; via = c })
  breaks_at a b c e = cond-true _ _ _ (sym e)

  broken_none : (a b c : ℕ) → changeover m numbers a b ≤ changeover m numbers a c + changeover m numbers c b → broken m numbers a b c ≡ None
  broken_none a b c h = passes_at a b c (sym (le-ltb _ _ h))

  broken_some : (a b c : ℕ) → changeover m numbers a c + changeover m numbers c b < changeover m numbers a b → broken m numbers a b c ≡ Some (record { from = a; to = b; via = c })
  broken_some a b c h = breaks_at a b c (sym (lt-ltb _ _ h))

  broken_none_is : (a b c : ℕ) → broken m numbers a b c ≡ None → changeover m numbers a b ≤ changeover m numbers a c + changeover m numbers c b
  broken_none_is a b c e =
      ⊎_elim
      (λ h. absurd (let z : ◌≡◌ {A = ℕ} 0 1 = cc (e, broken_some a b c h) in omega arith))
      (λ h. h)
      (cases_lt (changeover m numbers a c + changeover m numbers c b) (changeover m numbers a b))

  broken_some_is : (a b c : ℕ) (x : Triple) → broken m numbers a b c ≡ Some x → (changeover m numbers a c + changeover m numbers c b < changeover m numbers a b) × (x ≡ record { from = a; to = b; via = c })
  broken_some_is a b c x e =
      ⊎_elim
      (λ h. (h, cc (e, broken_some a b c h)))
      (λ h. absurd (let z : ◌≡◌ {A = ℕ} 0 1 = cc (e, broken_none a b c h) in omega arith))
      (cases_lt (changeover m numbers a c + changeover m numbers c b) (changeover m numbers a b))

  -- the first broken triple from a to b, and from a
  abbrev pub to_row : ℕ → ℕ → Option Triple
  to_row a b = first (broken m numbers a b) m

  abbrev pub from_row : ℕ → Option Triple
  from_row a = first (to_row a) m

  row_passes : (a b c : ℕ) → from_row a ≡ None → Setup m b → Setup m c → broken m numbers a b c ≡ None
  row_passes a b c e sb sc = none_before (broken m numbers a b) m (none_before (to_row a) m e b sb.0 sb.1) c sc.0 sc.1

  none_broken : first_broken m numbers ≡ None → Triangular m numbers
  none_broken e a b c sa sb sc = broken_none_is a b c (row_passes a b c (none_before from_row m e a sa.0 sa.1) sb sc)

  triple_first : (x : Triple) → first_broken m numbers ≡ Some x → FirstBroken m numbers x
  triple_first x e =
      let p = found_first from_row m x e in
      let q = found_first (to_row p.0) m x p.3 in
      let r = found_first (broken m numbers p.0 q.0) m x q.3 in
      let g = broken_some_is p.0 q.0 r.0 x r.3 in
      subst (FirstBroken m numbers) (sym g.1) (record {
        setups = ((p.1, p.2), (q.1, q.2), (r.1, r.2));
        longer = g.0;
        earlier = λ a b c sa sb sc o. broken_none_is a b c
            (⊎_elim
            (λ lt. row_passes a b c (p.4 a sa.0 lt) sb sc)
            (λ y.
            ⊎_elim
            (λ lt. none_before (broken m numbers a b) m (ap (λ i. to_row i b) y.0 ∙ q.4 b sb.0 lt) c sc.0 sc.1)
            (λ z. ap (λ i. broken m numbers i b c) y.0 ∙ (ap (λ j. broken m numbers p.0 j c) z.0 ∙ r.4 c sc.0 z.1))
            y.1)
            o);
      })

  -- each answer says what it should
  judged_triangle : Sized m → length numbers ≡ m * m → Small m numbers → (o : Option Triple) → first_broken m numbers ≡ o → Judged m numbers (refused_or Triangle o (Ok tt))
  judged_triangle sized complete small None e = record { sized = sized; complete = complete; small = small; triangular = none_broken e }
  judged_triangle sized complete small (Some x) e = (sized, complete, small, triple_first x e)

  judged_small : Sized m → length numbers ≡ m * m → (o : Option Entry) → first_too_great m numbers ≡ o → Judged m numbers (refused_or TooGreat o (refused_or Triangle (first_broken m numbers) (Ok tt)))
  judged_small sized complete None e = judged_triangle sized complete (none_too_great e) (first_broken m numbers) refl
  judged_small sized complete (Some x) e = (sized, complete, entry_first x e)

  pub judged : Judged m numbers (matrix_answer m numbers)
  judged =
      cond_both (leb 1 m && leb m 16) _ _ (Judged m numbers)
      (λ t.
      let parts = and_parts (leb 1 m) (leb m 16) t in
      let sized : Sized m = (leb-true 1 m parts.0, leb-true m 16 parts.1) in
      cond_both (eqb (length numbers) (m * m)) _ _ (Judged m numbers)
      (λ t. judged_small sized (eqb-true _ _ t) (first_too_great m numbers) refl)
      (λ f. (sized, refl, eqb-false _ _ f)))
      (λ f. (
        refl,
        λ sized.
            ⊎_elim
            (λ g. absurd (omega (arith, leb-false 1 m g)))
            (λ g. absurd (omega (arith, leb-false m 16 g)))
            (and_cases (leb 1 m) (leb m 16) f),
      ))

  pub judged_is : (r : Result (Unit {0}) MatrixRefusal) → r ≡ matrix_answer m numbers → Judged m numbers r
  judged_is r e = subst (Judged m numbers) (sym e) judged
