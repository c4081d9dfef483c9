-- The node of white and grey leaves over a row of places: e' is the greatest of e and of the finishes with one grey leaf made white,
-- P' the greatest of P and of the totals, and each place is the lowest that gives it. Assumes nothing.
use Rattle.std.proofs.Common.{◌≡◌, ℕ, zero, suc, ◌+◌, ◌*◌, ◌^◌, ◌<◌, ◌≤◌, max, Bool, true, false, cond, ◌||◌, eqb, ◌≢◌, ◌⊎◌, is_some, Some, None, Option, sym, refl, ap, ◌∙◌, subst, inl, inr, ⊎_elim, arith}
use Rattle.std.proofs.lemmas.Bool.{cases_lt, cond-true, cond-false, eq-eqb, ne_eqb, both_ways}
use Rattle.theta_nodes.specs.declared.white.White.{White}
use Rattle.theta_nodes.specs.declared.grey.Grey.{Grey}
use Rattle.theta_nodes.specs.White.{capped, later, white_join}
use Rattle.theta_nodes.specs.Grey.{rank, grey_placed, across, along, grey_finish, grey_total, grey_count, grey_join}
use Rattle.theta_nodes.specs.Leaves.{Leaf, nothing_here, white_here, grey_here, InLimits, is_grey, duration, whitened, with_white, in_white, in_grey}
use Rattle.theta_lambda.proofs.Bests.{Best, sh, choose, heavy, Counted, best_under, load_joins, counted_joins, due_joins}
use Rattle.theta.proofs.Grows.{grow}
use Rattle.theta_lambda.proofs.Smalls.{rank_later, rank_after, Small, Plain, plain, small, with_white_limits}

module _ (b : ℕ → ℕ) (low : (e : ℕ) → b e ≤ 400000) (L : ℕ → Leaf) (ok : (p : ℕ) → p < 32 → InLimits (L p)) where
  -- the grey places
  abbrev G : ℕ → Bool
  G p = is_grey (L p)

  -- the white leaves alone
  abbrev T : ℕ → ℕ → White
  T k p = grow (white_join b) (λ q. in_white (L q)) k p

  -- the white leaves and the leaf of place g
  abbrev T⁺ : ℕ → ℕ → ℕ → White
  T⁺ g k p = grow (white_join b) (λ q. in_white (with_white g L q)) k p

  abbrev X : ℕ → ℕ → Grey
  X k p = grow (grey_join b) (λ q. grey_placed q (in_grey (L q))) k p

  with_here : (g : ℕ) → with_white g L g ≡ whitened (L g)
  with_here g = cond-true (eqb g g) (whitened (L g)) (L g) (eq-eqb g g refl)

  with_other : (g p : ℕ) → p ≢ g → with_white g L p ≡ L p
  with_other g p d = cond-false (eqb p g) (whitened (L p)) (L p) (ne_eqb p g d)

  -- a leaf of another place changes nothing
  elsewhere : (g k p : ℕ) → (g < p) ⊎ (p + 2 ^ k ≤ g) → T⁺ g k p ≡ T k p
  unfolding grow
  elsewhere g zero p h = ap in_white (with_other g p (λ e. ⊎_elim (λ l. omega arith) (λ l. omega arith) h))
  elsewhere g (suc k) p h =
      let l = elsewhere g k p (⊎_elim (λ l. inl l) (λ l. inr (omega arith)) h) in
      let r = elsewhere g k (p + 2 ^ k) (⊎_elim (λ l. inl (omega arith)) (λ l. inr (omega arith)) h) in
      cc

  plain_at : (k p : ℕ) → p + 2 ^ suc k ≤ 32 → Plain b (T k p) (T k (p + 2 ^ k)) (T (suc k) p)
  unfolding grow
  plain_at k p h = plain b low (2 ^ k) (T k p) (T k (p + 2 ^ k)) (omega arith) (small b low L ok k p (omega arith)) (small b low L ok k (p + 2 ^ k) (omega arith))

  small_with : (g k p : ℕ) → p + 2 ^ k ≤ 32 → Small (2 ^ k) (T⁺ g k p)
  small_with g k p h = small b low (with_white g L) (with_white_limits L ok g) k p h

  plain_with : (g k p : ℕ) → p + 2 ^ suc k ≤ 32 → Plain b (T⁺ g k p) (T⁺ g k (p + 2 ^ k)) (T⁺ g (suc k) p)
  unfolding grow
  plain_with g k p h = plain b low (2 ^ k) (T⁺ g k p) (T⁺ g k (p + 2 ^ k)) (omega arith) (small_with g k p (omega arith)) (small_with g k (p + 2 ^ k) (omega arith))

  -- a grey leaf made white adds what it lasts, and one leaf
  abbrev More : ℕ → White → White → Type 0
  More g x y = (y.total ≡ x.total + duration (L g)) × (y.count ≡ x.count + 1)

  more_leaf : (y : Leaf) → is_grey y ≡ true → ((in_white (whitened y)).total ≡ (in_white y).total + duration y) × ((in_white (whitened y)).count ≡ (in_white y).count + 1)
  more_leaf nothing_here t = absurd (both_ways false refl t)
  more_leaf (white_here d f) t = absurd (both_ways false refl t)
  more_leaf (grey_here d f) t = (omega arith, refl)

  more : (g k p : ℕ) → G g ≡ true → p ≤ g → g < p + 2 ^ k → p + 2 ^ k ≤ 32 → More g (T k p) (T⁺ g k p)
  unfolding grow
  more g zero p t a c h =
      let e : g ≡ p = omega arith in
      let m = more_leaf (L g) t in
      let w = with_here g in
      subst (λ q. More g (in_white (L q)) (in_white (with_white g L q))) e (subst (λ y. More g (in_white (L g)) (in_white y)) (sym w) m)
  more g (suc k) p t a c h =
      let s = plain_at k p h in
      let u = plain_with g k p h in
      ⊎_elim
      (λ l.
      let i = more g k p t a l (omega arith) in
      let r = elsewhere g k (p + 2 ^ k) (inl l) in
      (omega (arith, s.total_is, u.total_is, i.0, ap (λ x. x.total) r), omega (arith, s.count_is, u.count_is, i.1, ap (λ x. x.count) r)))
      (λ l.
      let i = more g k (p + 2 ^ k) t l (omega arith) (omega arith) in
      let r = elsewhere g k p (inr l) in
      (omega (arith, s.total_is, u.total_is, i.0, ap (λ x. x.total) r), omega (arith, s.count_is, u.count_is, i.1, ap (λ x. x.count) r)))
      (cases_lt g (p + 2 ^ k))

  -- what is true of the node of depth k from place p on
  pub record Grown (k p : ℕ) (x : Grey) : Type 0 where
    pub white_is : x.white ≡ T k p
    pub loads : Best p (p + 2 ^ k) G (λ g. x.white.total + duration (L g)) x.white.total x.grey.total x.heaviest
    pub numbers : Counted x.white.count x.grey.count x.heaviest
    pub dues : Best p (p + 2 ^ k) G (λ g. rank (T⁺ g k p).finish) (rank x.white.finish) (rank x.grey.finish) x.responsible

  -- a leaf that is not grey
  calm_leaf : (p : ℕ) (x : Grey) → G p ≡ false → x.white ≡ in_white (L p) → x.grey ≡ x.white → x.responsible ≡ None → x.heaviest ≡ None → Grown 0 p x
  unfolding grow
  calm_leaf p x f ew eg er eh =
      let off : (g : ℕ) → p ≤ g → g < p + 2 ^ 0 → G g ≡ true → ⊥ = λ g a c s. let e : g ≡ p = omega arith in both_ways (G p) f (ap G (sym e) ∙ s) in
      record {
        white_is = ew;
        loads = subst (Best p (p + 2 ^ 0) G (λ g. x.white.total + duration (L g)) x.white.total x.grey.total) (sym eh)
            (record { low = omega (arith, ap (λ y. y.total) eg); all = λ g a c s. absurd (off g a c s); by = ap (λ y. y.total) eg });
        numbers = subst (Counted x.white.count x.grey.count) (sym eh) (ap (λ y. y.count) eg);
        dues = subst (Best p (p + 2 ^ 0) G (λ g. rank (T⁺ g 0 p).finish) (rank x.white.finish) (rank x.grey.finish)) (sym er)
            (record { low = omega (arith, ap (λ y. rank y.finish) eg); all = λ g a c s. absurd (off g a c s); by = ap (λ y. rank y.finish) eg });
      }

  grey_leaf_grown : (p d f : ℕ) → L p ≡ grey_here d f → 1 ≤ d → Grown 0 p (grey_placed p (in_grey (grey_here d f)))
  unfolding grow
  grey_leaf_grown p d f e h =
      let t : G p ≡ true = ap is_grey e in
      let lasts : duration (L p) ≡ d = ap duration e in
      let ends : (g : ℕ) → g ≡ p → rank (in_white (with_white g L p)).finish ≡ suc f = λ g eg. ap (λ q. rank (in_white (with_white q L p)).finish) eg ∙ ap (λ y. rank (in_white y).finish) (with_here p) ∙ ap (λ y. rank (in_white (whitened y)).finish) e in
      record {
        white_is = sym (ap in_white e);
        loads = record {
          low = omega arith;
          all = λ g a c s. let eg : g ≡ p = omega arith in omega (arith, ap (λ q. duration (L q)) eg, lasts);
          by = (omega arith, omega arith, t, omega arith, omega (arith, lasts), λ g a c s. absurd (omega arith));
        };
        numbers = refl;
        dues = record {
          low = omega arith;
          all = λ g a c s. let eg : g ≡ p = omega arith in omega (arith, ends g eg);
          by = (omega arith, omega arith, t, omega arith, ends p refl, λ g a c s. absurd (omega arith));
        };
      }

  leaf_grown : (p : ℕ) (y : Leaf) → L p ≡ y → InLimits y → Grown 0 p (grey_placed p (in_grey y))
  leaf_grown p nothing_here e h = calm_leaf p (grey_placed p (in_grey nothing_here)) (ap is_grey e) (sym (ap in_white e)) refl refl refl
  leaf_grown p (white_here d f) e h = calm_leaf p (grey_placed p (in_grey (white_here d f))) (ap is_grey e) (sym (ap in_white e)) refl refl refl
  leaf_grown p (grey_here d f) e h = grey_leaf_grown p d f e h.0

  pub lasts_one : (y : Leaf) → InLimits y → is_grey y ≡ true → 1 ≤ duration y
  lasts_one nothing_here h t = absurd (both_ways false refl t)
  lasts_one (white_here d f) h t = h.0
  lasts_one (grey_here d f) h t = h.0

  -- where there is a grey place there is a heaviest
  pub has_heaviest : (lo hi base load n m g : ℕ) (f : ℕ → ℕ) (h : Option ℕ) → Best lo hi G f base load h → Counted n m h → lo ≤ g → g < hi → G g ≡ true → base < f g → (m ≡ n + 1) × (is_some h ≡ true)
  has_heaviest lo hi base load n m g f None bs cs a c t l = absurd (omega (arith, bs.by, bs.all g a c t))
  has_heaviest lo hi base load n m g f (Some q) bs cs a c t l = (cs, refl)

  -- P' and e' of small parts are small
  module _ (k p : ℕ) (x : Grey) (h : p + 2 ^ k ≤ 32) (gx : Grown k p x) where
    small_white : Small (2 ^ k) x.white
    small_white = subst (Small (2 ^ k)) (sym gx.white_is) (small b low L ok k p h)

    small_total : x.grey.total ≤ 100000 * 2 ^ k
    small_total =
        best_under p (p + 2 ^ k) G (λ g. x.white.total + duration (L g)) x.white.total x.grey.total (100000 * 2 ^ k) x.heaviest gx.loads small_white.totals
        (λ g a c t. omega (arith, ap (λ y. y.total) gx.white_is, (more g k p t a c h).0, (small_with g k p h).totals))

    small_finish : rank x.grey.finish ≤ 1000001 + 500000 * 2 ^ k
    small_finish =
        best_under p (p + 2 ^ k) G (λ g. rank (T⁺ g k p).finish) (rank x.white.finish) (rank x.grey.finish) (1000001 + 500000 * 2 ^ k) x.responsible gx.dues small_white.ends
        (λ g a c t. (small_with g k p h).ends)

  module _ (k p : ℕ) (h : p + 2 ^ suc k ≤ 32) (l r : Grey) (gl : Grown k p l) (gr : Grown k (p + 2 ^ k) r) where
    abbrev mid : ℕ
    mid = p + 2 ^ k

    abbrev hi : ℕ
    hi = p + 2 ^ suc k

    hl : p + 2 ^ k ≤ 32
    hl = omega arith

    hr : mid + 2 ^ k ≤ 32
    hr = omega arith

    end : mid + 2 ^ k ≡ hi
    end = omega arith

    w : White
    w = white_join b l.white r.white

    whites : Plain b l.white r.white (white_join b l.white r.white)
    whites = plain b low (2 ^ k) l.white r.white (omega arith) (small_white k p l hl gl) (small_white k mid r hr gr)

    rloads : Best mid hi G (λ g. r.white.total + duration (L g)) r.white.total r.grey.total r.heaviest
    rloads = subst (λ z. Best mid z G (λ g. r.white.total + duration (L g)) r.white.total r.grey.total r.heaviest) end gr.loads

    rdues : Best mid hi G (λ g. rank (T⁺ g k mid).finish) (rank r.white.finish) (rank r.grey.finish) r.responsible
    rdues = subst (λ z. Best mid z G (λ g. rank (T⁺ g k mid).finish) (rank r.white.finish) (rank r.grey.finish) r.responsible) end gr.dues

    total_is : grey_total l r ≡ max (l.grey.total + r.white.total) (l.white.total + r.grey.total)
    total_is = omega (arith, small_total k p l hl gl, small_total k mid r hr gr, (small_white k p l hl gl).totals, (small_white k mid r hr gr).totals)

    loads_join : Best p hi G (λ g. w.total + duration (L g)) w.total (grey_total l r) (heavy l.white.total l.grey.total r.white.total r.grey.total l.heaviest r.heaviest)
    unfolding w
    loads_join =
        let e = whites.total_is in
        let H : Option ℕ = heavy l.white.total l.grey.total r.white.total r.grey.total l.heaviest r.heaviest in
        subst (λ z. Best p hi G (λ g. z + duration (L g)) z (grey_total l r) H) (sym e)
        (subst (λ z. Best p hi G (λ g. (l.white.total + r.white.total) + duration (L g)) (l.white.total + r.white.total) z H) (sym total_is)
        (load_joins p mid hi G (omega arith) (omega arith) (λ g. l.white.total + duration (L g)) (λ g. r.white.total + duration (L g)) (λ g. (l.white.total + r.white.total) + duration (L g))
        l.white.total l.grey.total r.white.total r.grey.total (λ g a c t. omega arith) (λ g a c t. omega arith) l.heaviest r.heaviest gl.loads rloads))

    numbers_join : Counted w.count (grey_count w.count l.heaviest r.heaviest) (heavy l.white.total l.grey.total r.white.total r.grey.total l.heaviest r.heaviest)
    unfolding w
    numbers_join =
        let n : ℕ = (white_join b l.white r.white).count in
        let e : capped (n + 1) ≡ n + 1 = omega (arith, whites.count_is, (small_white k p l hl gl).counts, (small_white k mid r hr gr).counts) in
        counted_joins p mid hi G (omega arith) (omega arith) (λ g. l.white.total + duration (L g)) (λ g. r.white.total + duration (L g)) (λ g. (l.white.total + r.white.total) + duration (L g))
        l.white.total l.grey.total r.white.total r.grey.total (λ g a c t. omega arith) (λ g a c t. omega arith) l.heaviest r.heaviest gl.loads rloads
        n _ (ap (λ z. cond (is_some l.heaviest || is_some r.heaviest) z n) e)

    -- a leaf of the left part leaves the right one, and the other way round
    right_same : (g : ℕ) → g < mid → T⁺ g k mid ≡ r.white
    right_same g c = elsewhere g k mid (inl c) ∙ sym gr.white_is

    left_same : (g : ℕ) → mid ≤ g → T⁺ g k p ≡ l.white
    left_same g c = elsewhere g k p (inr c) ∙ sym gl.white_is

    right_more : (g : ℕ) → mid ≤ g → g < hi → G g ≡ true → More g r.white (T⁺ g k mid)
    right_more g a c t = subst (λ y. More g y (T⁺ g k mid)) (sym gr.white_is) (more g k mid t a (omega arith) hr)

    -- the ranks of e, of el + Pr' + b(nr'), of el' + Pr + b(nr), and of e'
    abbrev le : ℕ
    le = rank l.white.finish

    abbrev e : ℕ
    e = max (rank r.white.finish) (sh le (r.white.total + b r.white.count))

    abbrev x : ℕ
    x = sh le (r.grey.total + b r.grey.count)

    abbrev y : ℕ
    y = sh (rank l.grey.finish) (r.white.total + b r.white.count)

    abbrev e' : ℕ
    e' = max (max (rank r.grey.finish) x) y

    x_is : x ≡ rank (across b l r)
    x_is = sym (rank_after l.white.finish (r.grey.total + b r.grey.count) (omega (arith, (small_white k p l hl gl).ends, small_total k mid r hr gr, low r.grey.count)))

    y_is : y ≡ rank (along b l r)
    y_is = sym (rank_after l.grey.finish (r.white.total + b r.white.count) (omega (arith, small_finish k p l hl gl, (small_white k mid r hr gr).totals, low r.white.count)))

    e'_is : e' ≡ rank (grey_finish b l r)
    e'_is = omega (arith, rank_later (later r.grey.finish (across b l r)) (along b l r), rank_later r.grey.finish (across b l r), x_is, y_is)

    f_is : (g : ℕ) → rank (T⁺ g (suc k) p).finish ≡ max (rank (T⁺ g k mid).finish) (sh (rank (T⁺ g k p).finish) ((T⁺ g k mid).total + b (T⁺ g k mid).count))
    f_is g = (plain_with g k p h).finish_is

    f_left : (g : ℕ) → p ≤ g → g < mid → G g ≡ true → rank (T⁺ g (suc k) p).finish ≡ max (rank r.white.finish) (sh (rank (T⁺ g k p).finish) (r.white.total + b r.white.count))
    f_left g a c t = f_is g ∙ ap (λ z. max (rank z.finish) (sh (rank (T⁺ g k p).finish) (z.total + b z.count))) (right_same g c)

    f_right : (g : ℕ) → mid ≤ g → g < hi → G g ≡ true → rank (T⁺ g (suc k) p).finish ≡ max (rank (T⁺ g k mid).finish) (sh le ((r.white.total + duration (L g)) + b (r.white.count + 1)))
    f_right g a c t =
        let m = right_more g a c t in
        f_is g ∙ ap (λ z. max (rank (T⁺ g k mid).finish) (sh (rank z.finish) ((T⁺ g k mid).total + b (T⁺ g k mid).count))) (left_same g a)
        ∙ ap (λ n. max (rank (T⁺ g k mid).finish) (sh le (n + b (T⁺ g k mid).count))) m.0 ∙ ap (λ n. max (rank (T⁺ g k mid).finish) (sh le ((r.white.total + duration (L g)) + b n))) m.1

    dues_best : Best p hi G (λ g. rank (T⁺ g (suc k) p).finish) e e' (choose e e' y (rank r.grey.finish) x l.responsible r.responsible r.heaviest)
    dues_best =
        due_joins p mid hi G (omega arith) (omega arith) b (λ g. rank (T⁺ g k p).finish) (λ g. rank (T⁺ g k mid).finish) (λ g. r.white.total + duration (L g)) (λ g. rank (T⁺ g (suc k) p).finish)
        le (rank l.grey.finish) (rank r.white.finish) (rank r.grey.finish) r.white.total r.grey.total r.white.count r.grey.count f_left f_right
        l.responsible r.responsible r.heaviest gl.dues rdues rloads gr.numbers
        (λ g a c t. (has_heaviest mid hi r.white.total r.grey.total r.white.count r.grey.count g (λ q. r.white.total + duration (L q)) r.heaviest rloads gr.numbers a c t
        (omega (arith, lasts_one (L g) (ok g (omega arith)) t))).0)

    dues_join : Best p hi G (λ g. rank (T⁺ g (suc k) p).finish) (rank w.finish) (rank (grey_finish b l r))
        (choose (rank w.finish) (rank (grey_finish b l r)) (rank (along b l r)) (rank r.grey.finish) (rank (across b l r)) l.responsible r.responsible r.heaviest)
    unfolding w
    dues_join =
        let F : ℕ → ℕ → ℕ → ℕ → Type 0 = λ e top y x. Best p hi G (λ g. rank (T⁺ g (suc k) p).finish) e top (choose e top y (rank r.grey.finish) x l.responsible r.responsible r.heaviest) in
        subst (λ z. F z (rank (grey_finish b l r)) (rank (along b l r)) (rank (across b l r))) (sym whites.finish_is)
        (subst (λ z. F e z (rank (along b l r)) (rank (across b l r))) e'_is
        (subst (λ z. F e e' z (rank (across b l r))) y_is (subst (λ z. F e e' y z) x_is dues_best)))

    join_grown : Grown (suc k) p (grey_join b l r)
    unfolding grow grey_join w
    join_grown = record {
      white_is = let lw = gl.white_is in let rw' = gr.white_is in (cc);
      loads = loads_join;
      numbers = numbers_join;
      dues = dues_join;
    }

  pub grey_grown : (k p : ℕ) → p + 2 ^ k ≤ 32 → Grown k p (X k p)
  unfolding grow
  grey_grown zero p h = leaf_grown p (L p) refl (ok p (omega arith))
  grey_grown (suc k) p h = join_grown k p h (X k p) (X k (p + 2 ^ k)) (grey_grown k p (omega arith)) (grey_grown k (p + 2 ^ k) (omega arith))
