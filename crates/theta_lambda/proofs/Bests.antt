-- The best of a row of places, and how the bests of two rows side by side join. Assumes nothing.
use Rattle.std.proofs.Common.{◌≡◌, ℕ, zero, suc, ◌+◌, ◌<◌, ◌≤◌, min, max, Bool, true, cond, ◌&&◌, ◌||◌, eqb, leb, ◌≢◌, ◌⊎◌, is_some, Some, None, Option, sym, refl, ap, subst, inl, inr, ⊎_elim, arith}
use Rattle.std.proofs.lemmas.Bool.{cases_eq, cases_lt, cond-true, cond-false, cond_both, eq-eqb, ne_eqb, le-leb, lt-leb}
use Rattle.theta_nodes.specs.Grey.{lower}

-- who is the lowest of the places of G from lo and below hi at which f gives top; none where base gives it
abbrev pub Who : ℕ → ℕ → (ℕ → Bool) → (ℕ → ℕ) → ℕ → ℕ → Option ℕ → Type 0
Who lo hi G f base top None = top ≡ base
Who lo hi G f base top (Some q) = (lo ≤ q) × (q < hi) × (G q ≡ true) × (base < top) × (f q ≡ top) × ((g : ℕ) → lo ≤ g → g < q → G g ≡ true → f g < top)

-- top is the greatest of base and of f over the places of G from lo and below hi
pub record Best (lo hi : ℕ) (G : ℕ → Bool) (f : ℕ → ℕ) (base top : ℕ) (who : Option ℕ) : Type 0 where
  pub low : base ≤ top
  pub all : (g : ℕ) → lo ≤ g → g < hi → G g ≡ true → f g ≤ top
  pub by : Who lo hi G f base top who

-- a rank and a length more: 0 is none, and stays
abbrev pub sh : ℕ → ℕ → ℕ
sh x d = cond (eqb x 0) 0 (x + d)

-- whose doing the greatest of e'r, x and y is, if it is above e
abbrev pub choose : ℕ → ℕ → ℕ → ℕ → ℕ → Option ℕ → Option ℕ → Option ℕ → Option ℕ
choose e top y rd x lq rq rh = cond (eqb top e) None (cond (eqb y top) lq (lower (cond (eqb rd top) rq None) (cond (eqb x top) rh None)))

-- the left place, where there is one and it is no lighter
abbrev pub heavy : ℕ → ℕ → ℕ → ℕ → Option ℕ → Option ℕ → Option ℕ
heavy lp lp' rp rp' lq rq = cond (is_some lq && leb (lp + rp') (lp' + rp)) lq rq

-- one more leaf where there is a grey one
abbrev pub Counted : ℕ → ℕ → Option ℕ → Type 0
Counted n m None = m ≡ n
Counted n m (Some q) = m ≡ n + 1

-- what is greater than base and than every f is greater than top
pub best_under : (lo hi : ℕ) (G : ℕ → Bool) (f : ℕ → ℕ) (base top m : ℕ) (who : Option ℕ) → Best lo hi G f base top who → base ≤ m → ((g : ℕ) → lo ≤ g → g < hi → G g ≡ true → f g ≤ m) → top ≤ m
best_under lo hi G f base top m None best h all = omega (arith, best.by)
best_under lo hi G f base top m (Some q) best h all = let w = best.by in omega (arith, w.4, all q w.0 w.1 w.2)

sh_zero : (d : ℕ) → sh 0 d ≡ 0
sh_zero d = refl

pub sh_more : (x d : ℕ) → 0 < x → sh x d ≡ x + d
sh_more x d h = cond-false (eqb x 0) 0 (x + d) (ne_eqb x 0 (λ e. omega arith))

sh_mono : (x y d e : ℕ) → x ≤ y → d ≤ e → sh x d ≤ sh y e
sh_mono zero y d e h k = omega (arith, sh_zero d)
sh_mono (suc x) y d e h k = omega (arith, sh_more (suc x) d (omega arith), sh_more y e (omega arith))

sh_left : (x y d : ℕ) → x < y → sh x d < sh y d
sh_left zero y d h = omega (arith, sh_zero d, sh_more y d h)
sh_left (suc x) y d h = omega (arith, sh_more (suc x) d (omega arith), sh_more y d (omega arith))

sh_right : (x d e : ℕ) → 0 < x → d < e → sh x d < sh x e
sh_right x d e h k = omega (arith, sh_more x d h, sh_more x e h)

sh_pos : (x d : ℕ) → 0 < sh x d → 0 < x
sh_pos zero d h = omega (arith, sh_zero d)
sh_pos (suc x) d h = omega arith

module _ (lo mid hi : ℕ) (G : ℕ → Bool) (lm : lo ≤ mid) (mh : mid ≤ hi) where
  -- ---- loads
  module _ (fl fr f : ℕ → ℕ) (lp lp' rp rp' : ℕ)
      (left : (g : ℕ) → lo ≤ g → g < mid → G g ≡ true → f g ≡ fl g + rp) (right : (g : ℕ) → mid ≤ g → g < hi → G g ≡ true → f g ≡ lp + fr g) where
    abbrev top : ℕ
    top = max (lp' + rp) (lp + rp')

    load_all : (lq rq : Option ℕ) → Best lo mid G fl lp lp' lq → Best mid hi G fr rp rp' rq → (g : ℕ) → lo ≤ g → g < hi → G g ≡ true → f g ≤ top
    load_all lq rq lb rb g a c t =
        ⊎_elim (λ l. omega (arith, left g a l t, lb.all g a l t)) (λ l. omega (arith, right g l c t, rb.all g l c t)) (cases_lt g mid)

    -- by the right part, which is the greater
    load_right : (lq rq : Option ℕ) → Best lo mid G fl lp lp' lq → Best mid hi G fr rp rp' rq → (lp' + rp < lp + rp') ⊎ (lq ≡ None) → Who lo hi G f (lp + rp) top rq
    load_right lq rq lb rb s = go rq rb lq lb s
      where
        go : (rq : Option ℕ) → Best mid hi G fr rp rp' rq → (lq : Option ℕ) → Best lo mid G fl lp lp' lq → (lp' + rp < lp + rp') ⊎ (lq ≡ None) → Who lo hi G f (lp + rp) top rq
        go None rb lq lb (inl s) = omega (arith, rb.by, lb.low)
        go None rb None lb (inr s) = omega (arith, rb.by, lb.by)
        go None rb (Some x) lb (inr s) = let z : ◌≡◌ {A = ℕ} 0 1 = cc in omega arith
        go (Some q) rb lq lb s =
            let w = rb.by in
            let big : lp' + rp < lp + rp' = ⊎_elim (λ h. h) (λ e. let n : lp' ≡ lp = none_low lq e lb in omega (arith, w.3)) s in (
              omega (arith, w.0),
              w.1,
              w.2,
              omega (arith, w.3),
              omega (arith, w.4, right q w.0 w.1 w.2),
              λ g a l t. ⊎_elim (λ m. omega (arith, left g a m t, lb.all g a m t)) (λ m. omega (arith, w.5 g m l t, right g m (omega (arith, w.1)) t)) (cases_lt g mid),
            )
          where
            none_low : (lq : Option ℕ) → lq ≡ None → Best lo mid G fl lp lp' lq → lp' ≡ lp
            none_low None e lb = lb.by
            none_low (Some x) e lb = let z : ◌≡◌ {A = ℕ} 0 1 = cc in omega arith

    load_left : (q : ℕ) (rq : Option ℕ) → Best lo mid G fl lp lp' (Some q) → Best mid hi G fr rp rp' rq → lp + rp' ≤ lp' + rp → Who lo hi G f (lp + rp) top (Some q)
    load_left q rq lb rb h =
        let w = lb.by in (
          w.0,
          omega (arith, w.1),
          w.2,
          omega (arith, w.3),
          omega (arith, w.4, left q w.0 w.1 w.2),
          λ g a l t. omega (arith, w.5 g a l t, left g a (omega (arith, w.1)) t),
        )

    pub load_joins : (lq rq : Option ℕ) → Best lo mid G fl lp lp' lq → Best mid hi G fr rp rp' rq → Best lo hi G f (lp + rp) top (heavy lp lp' rp rp' lq rq)
    load_joins lq rq lb rb = record { low = omega (arith, lb.low, rb.low); all = load_all lq rq lb rb; by = by_which lq lb }
      where
        by_which : (lq : Option ℕ) → Best lo mid G fl lp lp' lq → Who lo hi G f (lp + rp) top (heavy lp lp' rp rp' lq rq)
        by_which None lb = load_right None rq lb rb (inr refl)
        by_which (Some q) lb =
            ⊎_elim
            (λ l. subst (Who lo hi G f (lp + rp) top) (sym (cond-false (leb (lp + rp') (lp' + rp)) (Some q) rq (lt-leb (lp + rp') (lp' + rp) l))) (load_right (Some q) rq lb rb (inl l)))
            (λ l. subst (Who lo hi G f (lp + rp) top) (sym (cond-true (leb (lp + rp') (lp' + rp)) (Some q) rq (le-leb (lp + rp') (lp' + rp) l))) (load_left q rq lb rb l))
            (cases_lt (lp' + rp) (lp + rp'))

    -- there is a place for the join where there is one for either part
    pub counted_joins : (lq rq : Option ℕ) → Best lo mid G fl lp lp' lq → Best mid hi G fr rp rp' rq → (n m : ℕ) → m ≡ cond (is_some lq || is_some rq) (n + 1) n → Counted n m (heavy lp lp' rp rp' lq rq)
    counted_joins None None lb rb n m e = e
    counted_joins None (Some p) lb rb n m e = e
    counted_joins (Some q) (Some p) lb rb n m e = cond_both (leb (lp + rp') (lp' + rp)) (Some q) (Some p) (Counted n m) (λ _. e) (λ _. e)
    counted_joins (Some q) None lb rb n m e =
        subst (Counted n m) (sym (cond-true (leb (lp + rp') (lp' + rp)) (Some q) None (le-leb (lp + rp') (lp' + rp) (omega (arith, rb.by, lb.low))))) e

  -- ---- finishes
  module _ (b : ℕ → ℕ) (fl fr pr f : ℕ → ℕ) (le le' re re' rp rp' rn rn' : ℕ)
      (left : (g : ℕ) → lo ≤ g → g < mid → G g ≡ true → f g ≡ max re (sh (fl g) (rp + b rn)))
      (right : (g : ℕ) → mid ≤ g → g < hi → G g ≡ true → f g ≡ max (fr g) (sh le (pr g + b (rn + 1))))
      (lq rq rh : Option ℕ) (lb : Best lo mid G fl le le' lq) (rb : Best mid hi G fr re re' rq) (rl : Best mid hi G pr rp rp' rh) (rc : Counted rn rn' rh)
      (some : (g : ℕ) → mid ≤ g → g < hi → G g ≡ true → rn' ≡ rn + 1) where
    abbrev e : ℕ
    e = max re (sh le (rp + b rn))

    abbrev x : ℕ
    x = sh le (rp' + b rn')

    abbrev y : ℕ
    y = sh le' (rp + b rn)

    abbrev e' : ℕ
    e' = max (max re' x) y

    due_low : e ≤ e'
    due_low = omega (arith, rb.low, sh_mono le le' (rp + b rn) (rp + b rn) lb.low (omega arith))

    in_left : (g : ℕ) → lo ≤ g → g < mid → G g ≡ true → f g ≤ max re y
    in_left g a c t = omega (arith, left g a c t, sh_mono (fl g) le' (rp + b rn) (rp + b rn) (lb.all g a c t) (omega arith))

    -- the part of a right grey place that goes by its load
    by_load : (g : ℕ) → mid ≤ g → g < hi → G g ≡ true → sh le (pr g + b (rn + 1)) ≤ x
    by_load g a c t = sh_mono le le (pr g + b (rn + 1)) (rp' + b rn') (omega arith) (omega (arith, rl.all g a c t, ap b (some g a c t)))

    in_right : (g : ℕ) → mid ≤ g → g < hi → G g ≡ true → f g ≤ max re' x
    in_right g a c t = omega (arith, right g a c t, rb.all g a c t, by_load g a c t)

    due_all : (g : ℕ) → lo ≤ g → g < hi → G g ≡ true → f g ≤ e'
    due_all g a c t = ⊎_elim (λ l. omega (arith, in_left g a l t, rb.low)) (λ l. omega (arith, in_right g l c t)) (cases_lt g mid)

    -- by the left part
    due_left : (lq : Option ℕ) → Best lo mid G fl le le' lq → e < e' → y ≡ e' → Who lo hi G f e e' lq
    due_left None lb above ey = absurd (omega (arith, ap (λ z. sh z (rp + b rn)) lb.by))
    due_left (Some q) lb above ey =
        let w = lb.by in (
          w.0,
          omega (arith, w.1),
          w.2,
          above,
          omega (arith, left q w.0 w.1 w.2, ap (λ z. sh z (rp + b rn)) w.4),
          λ g a l t. omega (arith, left g a (omega (arith, w.1)) t, sh_left (fl g) le' (rp + b rn) (w.5 g a l t)),
        )

    -- what is asked of the lower of the two right places: not too high, and a place that gives e'
    abbrev From : Option ℕ → Type 0
    From o = Who lo hi G f e e' o

    -- a right place q that gives e', with none below it
    at_right : (q : ℕ) → mid ≤ q → q < hi → G q ≡ true → e < e' → y < e' → f q ≡ e' → ((g : ℕ) → mid ≤ g → g < q → G g ≡ true → f g < e') → From (Some q)
    at_right q a c t above yl is lows = (
      omega arith,
      c,
      t,
      above,
      is,
      λ g ga gl gt. ⊎_elim (λ l. omega (arith, in_left g ga l gt)) (λ l. lows g l gl gt) (cases_lt g mid),
    )

    gives_end : (q : ℕ) → mid ≤ q → q < hi → G q ≡ true → fr q ≡ re' → re' ≡ e' → f q ≡ e'
    gives_end q a c t h k = omega (arith, right q a c t, due_all q (omega arith) c t)

    gives_load : (q : ℕ) → mid ≤ q → q < hi → G q ≡ true → pr q ≡ rp' → x ≡ e' → f q ≡ e'
    gives_load q a c t h k =
        let s : sh le (pr q + b (rn + 1)) ≡ x = ap (sh le) (omega (arith, ap b (some q a c t))) in
        omega (arith, right q a c t, due_all q (omega arith) c t)

    -- below the lowest that gives re', and below the lowest that gives rp'
    less_end : (g : ℕ) → fr g < re' → sh le (pr g + b (rn + 1)) < e' → mid ≤ g → g < hi → G g ≡ true → f g < e'
    less_end g h k a c t = omega (arith, right g a c t)

    less_load : (g : ℕ) → mid ≤ g → g < hi → G g ≡ true → pr g < rp' → e < e' → x ≡ e' → sh le (pr g + b (rn + 1)) < e'
    less_load g a c t h above k =
        let p : 0 < le = sh_pos le (rp' + b rn') (omega arith) in
        let s = sh_right le (pr g + b (rn + 1)) (rp' + b rn') p (omega (arith, ap b (some g a c t))) in omega arith

    due_right : (rq rh : Option ℕ) → Best mid hi G fr re re' rq → Best mid hi G pr rp rp' rh → Counted rn rn' rh → e < e' → y < e' →
        From (lower (cond (eqb re' e') rq None) (cond (eqb x e') rh None))
    due_right rq rh rb rl rc above yl =
        ⊎_elim
        (λ re. subst (λ v. From (lower (cond v rq None) (cond (eqb x e') rh None))) (sym (eq-eqb re' e' re))
        (⊎_elim
        (λ xe. subst (λ v. From (lower rq (cond v rh None))) (sym (eq-eqb x e' xe)) (both rq rh rb rl rc re xe))
        (λ xn. subst (λ v. From (lower rq (cond v rh None))) (sym (ne_eqb x e' xn)) (end_only rq rb re xn))
        (cases_eq x e')))
        (λ rn. subst (λ v. From (lower (cond v rq None) (cond (eqb x e') rh None))) (sym (ne_eqb re' e' rn))
        (⊎_elim
        (λ xe. subst (λ v. From (cond v rh None)) (sym (eq-eqb x e' xe)) (load_only rh rl rc rn xe))
        (λ xn. absurd (omega arith))
        (cases_eq x e')))
        (cases_eq re' e')
      where
        end_only : (rq : Option ℕ) → Best mid hi G fr re re' rq → re' ≡ e' → x ≢ e' → From (lower rq None)
        end_only None rb h k = absurd (omega (arith, rb.by))
        end_only (Some q) rb h k =
            let w = rb.by in
            at_right q w.0 w.1 w.2 above yl (gives_end q w.0 w.1 w.2 w.4 h)
            (λ g a l t. less_end g (w.5 g a l t) (omega (arith, by_load g a (omega (arith, w.1)) t)) a (omega (arith, w.1)) t)

        load_only : (rh : Option ℕ) → Best mid hi G pr rp rp' rh → Counted rn rn' rh → re' ≢ e' → x ≡ e' → From rh
        load_only None rl rc h k = let s : rp' + b rn' ≡ rp + b rn = omega (arith, rl.by, ap b rc) in absurd (omega (arith, k, ap (sh le) s))
        load_only (Some q) rl rc h k =
            let w = rl.by in
            at_right q w.0 w.1 w.2 above yl (gives_load q w.0 w.1 w.2 w.4 k)
            (λ g a l t. let c : g < hi = omega (arith, w.1) in omega (arith, right g a c t, rb.all g a c t, less_load g a c t (w.5 g a l t) above k))

        both : (rq rh : Option ℕ) → Best mid hi G fr re re' rq → Best mid hi G pr rp rp' rh → Counted rn rn' rh → re' ≡ e' → x ≡ e' → From (lower rq rh)
        both None rh rb rl rc h k = absurd (omega (arith, rb.by))
        both (Some q) None rb rl rc h k = let s : rp' + b rn' ≡ rp + b rn = omega (arith, rl.by, ap b rc) in absurd (omega (arith, k, ap (sh le) s))
        both (Some q) (Some p) rb rl rc h k =
            let w = rb.by in
            let u = rl.by in
            let lows : (g : ℕ) → mid ≤ g → g < min q p → G g ≡ true → f g < e' = λ g a l t. let c : g < hi = omega (arith, w.1) in
            less_end g (w.5 g a (omega arith) t) (less_load g a c t (u.5 g a (omega arith) t) above k) a c t in
            ⊎_elim
            (λ l. let m : q ≡ min q p = omega arith in
            subst (λ z. From (Some z)) m (at_right q w.0 w.1 w.2 above yl (gives_end q w.0 w.1 w.2 w.4 h) (λ g a s t. lows g a (omega arith) t)))
            (λ l. let m : p ≡ min q p = omega arith in
            subst (λ z. From (Some z)) m (at_right p u.0 u.1 u.2 above yl (gives_load p u.0 u.1 u.2 u.4 k) (λ g a s t. lows g a (omega arith) t)))
            (cases_lt q p)

    pub due_joins : Best lo hi G f e e' (choose e e' y re' x lq rq rh)
    due_joins = record {
      low = due_low;
      all = due_all;
      by = ⊎_elim
          (λ h. subst (λ v. From (cond v None (cond (eqb y e') lq (lower (cond (eqb re' e') rq None) (cond (eqb x e') rh None))))) (sym (eq-eqb e' e h)) h)
          (λ h. let above : e < e' = omega (arith, due_low) in
          subst (λ v. From (cond v None (cond (eqb y e') lq (lower (cond (eqb re' e') rq None) (cond (eqb x e') rh None))))) (sym (ne_eqb e' e h))
          (⊎_elim
          (λ k. subst (λ v. From (cond v lq (lower (cond (eqb re' e') rq None) (cond (eqb x e') rh None)))) (sym (eq-eqb y e' k)) (due_left lq lb above k))
          (λ k. subst (λ v. From (cond v lq (lower (cond (eqb re' e') rq None) (cond (eqb x e') rh None)))) (sym (ne_eqb y e' k)) (due_right rq rh rb rl rc above (omega arith)))
          (cases_eq y e')))
          (cases_eq e' e);
    }
