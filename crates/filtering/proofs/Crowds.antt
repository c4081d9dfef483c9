-- Edge finding, one job more at a time. Assumes nothing.
use Rattle.std.proofs.Common.{◌≡◌, ℕ, zero, suc, ◌+◌, ◌<◌, ◌≤◌, Bool, true, false, cond, not, eqb, ltb, ◌≢◌, List, length, set, Some, None, Option, sym, refl, ap, ◌∙◌, subst, inl, inr, ⊎_elim, not-suc-le-zero, arith, get_or-set_other, get_or-set_same}
use Rattle.std.proofs.lemmas.Bool.{cases_eq, cases_lt, both_ways, and_right, ltb-false, le-ltb, lt-ltb, cond-true, cond-false}
use Rattle.theta_nodes.specs.Grey.{rank as late_rank}
use Rattle.rules.specs.Faces.{Face}
use Rattle.rules.specs.Places.{count, E}
use Rattle.rules.specs.Rules.{above, or_zero, least_over, sum, after, up_to, too_much, with_job}
use Rattle.face.specs.WhiteTrees.{but}
use Rattle.face.specs.GreyTrees.{Apart, TellsJobs}
use Rattle.face.proofs.Whites.{Same, but_others, but_here, with_others, with_here}
use Rattle.filtering.specs.Edges.{crowded, flagged, Blamed, Moved}

-- an earlier time is not above what a later one is not above
above_rank : (x y : Option ℕ) (limit : ℕ) → late_rank x ≤ late_rank y → above y limit ≡ false → above x limit ≡ false
above_rank None y limit h f = refl
above_rank (Some s) None limit h f = absurd (omega arith)
above_rank (Some s) (Some t) limit h f = le-ltb limit s (omega (arith, ltb-false limit t f))

module _ (F : Face) (b : ℕ → ℕ) (j : ℕ) (G : ℕ → Bool) (late : Option ℕ) where
  -- the root blames a grey job
  pub blames_one : (who : Option ℕ) → TellsJobs F b (up_to F j) G late who → too_much F b j ≡ false → above late (F.late j) ≡ true → Blamed F b j G who
  unfolding crowded too_much
  blames_one None tells calm y = absurd (both_ways _ calm (ap (λ x. above x (F.late j)) (sym tells.blames) ∙ y))
  blames_one (Some i) tells calm y = (tells.blames.0, tells.blames.1, ap (λ x. above x (F.late j)) tells.blames.2 ∙ y)

  -- or there is none to blame
  pub blames_none : (who : Option ℕ) → TellsJobs F b (up_to F j) G late who → above late (F.late j) ≡ false → Blamed F b j G None
  unfolding crowded
  blames_none who tells f k hk g = above_rank (E F b (with_job k (up_to F j))) late (F.late j) (tells.all k hk g) f

-- flags after a write
pub flag_here : (flags : List Bool) (i : ℕ) (v : Bool) → i < length flags → flagged (set flags i v) i ≡ v
flag_here flags i v h = get_or-set_same flags i v false h

pub flag_other : (flags : List Bool) (i k : ℕ) (v : Bool) → k ≢ i → flagged (set flags i v) k ≡ flagged flags k
flag_other flags i k v d = get_or-set_other flags i k v false d

-- one flag fewer
count_set : (flags : List Bool) (i m : ℕ) → i < length flags → m ≤ i → count (flagged (set flags i false)) m ≡ count (flagged flags) m
unfolding count
count_set flags i zero h l = refl
count_set flags i (suc m) h l =
    let r = count_set flags i m h (omega arith) in
    let e = flag_other flags i m false (λ x. omega arith) in cc

pub count_fewer : (flags : List Bool) (i m : ℕ) → i < length flags → i < m → flagged flags i ≡ true → count (flagged (set flags i false)) m < count (flagged flags) m
unfolding count
count_fewer flags i zero h l t = absurd (not-suc-le-zero l)
count_fewer flags i (suc m) h l t =
    ⊎_elim
    (λ e.
    let here : flagged (set flags i false) m ≡ false = subst (λ k. flagged (set flags i false) k ≡ false) e (flag_here flags i false h) in
    let was : flagged flags m ≡ true = subst (λ k. flagged flags k ≡ true) e t in
    omega (arith, cond-false {A = ℕ} (flagged (set flags i false) m) 1 0 here, cond-true {A = ℕ} (flagged flags m) 1 0 was, count_set flags i m h (omega arith)))
    (λ d.
    let same = flag_other flags i m false (λ x. d (sym x)) in
    omega (arith, ap (λ v. cond {A = ℕ} v 1 0) same, count_fewer flags i m h (omega arith) t))
    (cases_eq i m)

module _ (F : Face) (b : ℕ → ℕ) (j : ℕ) where
  -- the sets after job i is taken out
  pub out_white : (S G : ℕ → Bool) (i : ℕ) → i < F.n → G i ≡ true → Apart F S G → Same F.n (but i S) S
  out_white S G i hi g apart k hk = ⊎_elim (λ e. ap S e ∙ apart i hi g ∙ sym (ap (but i S) e ∙ but_here i S)) (λ d. sym (but_others F.n i S k hk d)) (cases_eq k i)

  pub out_grey : (flags : List Bool) (i : ℕ) → i < length flags → Same F.n (but i (flagged flags)) (flagged (set flags i false))
  out_grey flags i h k hk =
      ⊎_elim
      (λ e. ap (flagged (set flags i false)) e ∙ flag_here flags i false h ∙ sym (ap (but i (flagged flags)) e ∙ but_here i (flagged flags)))
      (λ d. flag_other flags i k false d ∙ sym (but_others F.n i (flagged flags) k hk d))
      (cases_eq k i)

  -- no grey job is white after one is taken out
  pub fewer_apart : (S : ℕ → Bool) (greys : List Bool) (i : ℕ) → i < length greys → Apart F S (flagged greys) → Apart F S (flagged (set greys i false))
  fewer_apart S greys i h apart k hk grey =
      ⊎_elim
      (λ e. absurd (both_ways _ (ap (flagged (set greys i false)) e ∙ flag_here greys i false h) grey))
      (λ d. apart k hk (sym (flag_other greys i k false d) ∙ grey))
      (cases_eq k i)

  -- one job more has moved
  pub moved_more : (greys greys' : List Bool) (out out' : List ℕ) (i v : ℕ) → length greys' ≡ 32 → length out' ≡ 32 → i < 32 → i < F.n → flagged greys' i ≡ true → crowded F b i j ≡ true → v ≡ or_zero (after F b (up_to F j) i) → ((k : ℕ) → k < F.n → Moved F b j greys out greys' out' k) → (k : ℕ) → k < F.n → Moved F b j greys out (set greys' i false) (set out' i v) k
  moved_more greys greys' out out' i v lg lo small hi g y is moved k hk =
      ⊎_elim
      (λ e.
      let here : Moved F b j greys out (set greys' i false) (set out' i v) i =
      inr (
        ⊎_elim (λ m. sym m.0 ∙ g) (λ m. absurd (both_ways _ m.1 g)) (moved i hi),
        flag_here greys' i false (omega arith),
        y,
        get_or-set_same out' i v 0 (omega arith) ∙ is,
      ) in
      subst (Moved F b j greys out (set greys' i false) (set out' i v)) (sym e) here)
      (λ d.
      let f = flag_other greys' i k false d in
      let o = get_or-set_other out' i k v 0 d in
      ⊎_elim (λ m. inl (f ∙ m.0, o ∙ m.1)) (λ m. inr (m.0, f ∙ m.1, m.2, o ∙ m.3)) (moved k hk))
      (cases_eq k i)

  -- the new early end
  pub pushed_is : (i : ℕ) (finish gap : Option ℕ) → finish ≡ E F b (up_to F j) → gap ≡ least_over (up_to F j) (λ k. F.gap k i) F.n → or_zero (sum finish gap) ≡ or_zero (after F b (up_to F j) i)
  unfolding after
  pushed_is i finish gap e d = ap (λ x. or_zero (sum x gap)) e ∙ ap (λ y. or_zero (sum (E F b (up_to F j)) y)) d

-- the jobs up to the next card
pub below_with : (n j : ℕ) → Same n (with_job j (λ k. ltb k j)) (λ k. ltb k (j + 1))
below_with n j k hk =
    ⊎_elim
    (λ e. lt-ltb k (j + 1) (omega arith) ∙ sym (ap (with_job j (λ i. ltb i j)) e ∙ with_here j (λ i. ltb i j)))
    (λ d.
    ⊎_elim (λ l. lt-ltb k (j + 1) (omega arith) ∙ sym (lt-ltb k j l)) (λ l. le-ltb k (j + 1) (omega arith) ∙ sym (le-ltb k j l)) (cases_lt k j)
    ∙ sym (with_others n j (λ i. ltb i j) k hk d))
    (cases_eq k j)

pub none_without : (n j : ℕ) → Same n (but j (λ _. false)) (λ _. false)
none_without n j k hk = sym (and_right (not (eqb k j)) false refl)
