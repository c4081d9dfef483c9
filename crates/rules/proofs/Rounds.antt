-- What a half round and a round leave: the same jobs, with windows that only shrink, and every possible plan. Assumes nothing.
use Rattle.std.proofs.Common.{◌≡◌, ℕ, ◌<◌, ◌≤◌, ◌⊎◌, Some, None, Option, sym, refl, ap, ◌∙◌, subst, inl, inr, ⊎_elim, arith}
use Rattle.std.proofs.lemmas.Bool.{lt-ltb}
use Rattle.changeover.specs.Rows.{Lawful}
use Rattle.rules.specs.declared.outcome.Overload.{Overload}
use Rattle.rules.specs.declared.outcome.Cause.{Cause}
use Rattle.rules.specs.Faces.{Face, turned, with_windows}
use Rattle.rules.specs.Rules.{new_early, new_late, clashing, overloading, shortened, Half, overloaded, goes_on, unless, half_round}
use Rattle.rules.specs.Settling.{stops, leaves, first_half, second_half, round}
use Rattle.rules.specs.Plans.{Inside}
use Rattle.rules.specs.Theorems.{Fine, Possible, RulesHold, turned_plan, RulesAlwaysHold, TurningAlwaysHolds}

-- the jobs of a face with these windows
abbrev pub windows : Face → (ℕ → ℕ) → (ℕ → ℕ) → Face
windows F early late = record { n = F.n; early = early; late = late; duration = F.duration; gap = F.gap }

-- G has the jobs of F, in windows that lie inside those of F
pub record Shrunk (F G : Face) : Type 0 where
  pub same : G ≡ windows F G.early G.late
  pub opens : (j : ℕ) → j < F.n → F.early j ≤ G.early j
  pub closes : (j : ℕ) → j < F.n → G.late j ≤ F.late j

-- windows lie inside themselves
pub shrunk_none : (F : Face) → Shrunk F F
shrunk_none F = record { same = refl; opens = λ j h. omega arith; closes = λ j h. omega arith }

-- as many jobs
pub shrunk_n : (F G : Face) → Shrunk F G → G.n ≡ F.n
shrunk_n F G s = ap (λ X. X.n) s.same

-- that last as long
pub shrunk_duration : (F G : Face) → Shrunk F G → (j : ℕ) → G.duration j ≡ F.duration j
shrunk_duration F G s j = ap (λ X. X.duration j) s.same

-- windows inside windows inside those of F lie inside those of F
pub shrunk_more : (F G H : Face) → Shrunk F G → Shrunk G H → Shrunk F H
shrunk_more F G H s t = record {
  same = t.same ∙ ap (λ X. windows X H.early H.late) s.same;
  opens = λ j h. omega (arith, s.opens j h, t.opens j (omega (arith, shrunk_n F G s)));
  closes = λ j h. omega (arith, s.closes j h, t.closes j (omega (arith, shrunk_n F G s)));
}

-- the law is kept
pub shrunk_lawful : (F G : Face) (b : ℕ → ℕ) → Shrunk F G → Lawful F.n F.gap b → Lawful G.n G.gap b
shrunk_lawful F G b s law = subst (λ X. Lawful X.n X.gap b) (sym s.same) law

-- what goes on found no overload
unless_goes_on : (o : Option Overload) (rest : Half) (G : Face) → unless o rest ≡ goes_on G → (o ≡ None) × (rest ≡ goes_on G)
unless_goes_on None rest G e = (refl, e)
unless_goes_on (Some x) rest G e = absurd (let z : ◌≡◌ {A = ℕ} 0 1 = cc in omega arith)

-- a half round that goes on found no two jobs that clash, and leaves the new windows
half_goes_on : (F : Face) (b : ℕ → ℕ) (G : Face) → half_round F b ≡ goes_on G → (clashing F ≡ None) × (G ≡ with_windows F (new_early F b) (new_late F b))
unfolding half_round
half_goes_on F b G e =
    let first = unless_goes_on (clashing F) (unless (overloading F b) (unless (shortened F b) (goes_on (with_windows F (new_early F b) (new_late F b))))) G e in
    let second = unless_goes_on (overloading F b) (unless (shortened F b) (goes_on (with_windows F (new_early F b) (new_late F b)))) G first.1 in
    let third = unless_goes_on (shortened F b) (goes_on (with_windows F (new_early F b) (new_late F b))) G second.1 in
    let whole : goes_on (with_windows F (new_early F b) (new_late F b)) ≡ goes_on G = third.1 in
    (first.0, cc)

-- which lie inside the old ones
pub half_shrinks : (F : Face) (b : ℕ → ℕ) (G : Face) → half_round F b ≡ goes_on G → Shrunk F G
unfolding new_early new_late
half_shrinks F b G e =
    let is : G ≡ with_windows F (new_early F b) (new_late F b) = (half_goes_on F b G e).1 in
    subst (Shrunk F) (sym is) (record {
      same = refl;
      opens = λ j h. rw (lt-ltb j F.n h) (omega arith);
      closes = λ j h. rw (lt-ltb j F.n h) (omega arith);
    })

-- windows that lie inside with time running backwards lie inside
turned_shrunk : (F G : Face) → Fine F → Shrunk (turned F) G → Shrunk F (turned G)
unfolding turned
turned_shrunk F G fine s =
    let many : G.n ≡ F.n = shrunk_n (turned F) G s in record {
      same = ap (λ X. windows (turned X) (turned G).early (turned G).late) s.same;
      opens = λ j h.
          let there : j < G.n = omega arith in
          rw (lt-ltb j G.n there) (omega (arith, rw (lt-ltb j F.n h) at (s.closes j h), fine.wide j h, fine.closes j h));
      closes = λ j h.
          let there : j < G.n = omega arith in
          rw (lt-ltb j G.n there) (omega (arith, rw (lt-ltb j F.n h) at (s.opens j h)));
    }

-- a plan that starts the same jobs at the same times is possible too
possible_same : (F : Face) (s t : ℕ → ℕ) → ((j : ℕ) → j < F.n → s j ≡ t j) → Possible F s → Possible F t
possible_same F s t is p = (
  record { opens = λ j h. omega (arith, is j h, p.0.opens j h); closes = λ j h. omega (arith, is j h, p.0.closes j h) },
  λ i j hi hj d. ⊎_elim (λ q. inl (omega (arith, is i hi, is j hj))) (λ q. inr (omega (arith, is i hi, is j hj))) (p.1 i j hi hj d),
)

-- a second half that leaves windows went on
second_leaves : (F : Face) (h : Half) (G : Face) → second_half F h ≡ leaves G → (H : Face) × (h ≡ goes_on H) × (G ≡ turned H)
second_leaves F (overloaded x) G e = absurd (let z : ◌≡◌ {A = ℕ} 0 1 = cc in omega arith)
second_leaves F (goes_on H) G e = (H, refl, cc)

-- and so did the first
first_leaves : (F : Face) (b : ℕ → ℕ) (h : Half) (G : Face) → first_half F b h ≡ leaves G →
    (H : Face) × (h ≡ goes_on H) × (second_half H (half_round (turned H) b) ≡ leaves G)
first_leaves F b (overloaded x) G e = absurd (let z : ◌≡◌ {A = ℕ} 0 1 = cc in omega arith)
first_leaves F b (goes_on H) G e = (H, refl, e)

-- a second half that stops is overloaded, with the windows that it read
second_stops : (F : Face) (h : Half) (c : Cause) (G : Face) → second_half F h ≡ stops c G → (x : Overload) × (h ≡ overloaded x) × (F ≡ G)
second_stops F (overloaded x) c G e = (x, refl, cc)
second_stops F (goes_on H) c G e = absurd (let z : ◌≡◌ {A = ℕ} 0 1 = cc in omega arith)

-- where a round stops, one of its halves is overloaded
first_stops : (F : Face) (b : ℕ → ℕ) (h : Half) (c : Cause) (G : Face) → first_half F b h ≡ stops c G →
    ((x : Overload) × (h ≡ overloaded x) × (F ≡ G)) ⊎ ((h ≡ goes_on G) × ((x : Overload) × (half_round (turned G) b ≡ overloaded x)))
first_stops F b (overloaded x) c G e = inl (x, refl, cc)
first_stops F b (goes_on H) c G e =
    let t = second_stops H (half_round (turned H) b) c G e in inr (ap goes_on t.2, (t.0, subst (λ X. half_round (turned X) b ≡ overloaded t.0) t.2 t.1))

-- what is known of a face G that comes of F: the same jobs in windows inside, within the limits
pub record Comes (F G : Face) : Type 0 where
  pub shrunk : Shrunk F G
  pub fine : Fine G

module _ (rules : RulesAlwaysHold) (turning : TurningAlwaysHolds) (F : Face) (b : ℕ → ℕ) (fine : Fine F) (law : Lawful F.n F.gap b) where
  -- what the first half leaves
  after_first : (G : Face) → half_round F b ≡ goes_on G → Comes F G
  after_first G e = record { shrunk = half_shrinks F b G e; fine = (rules F b fine law).half_fine G e }

  -- the law on the turned face of what the first half leaves
  turned_lawful : (G : Face) → half_round F b ≡ goes_on G → Lawful (turned G).n (turned G).gap b
  unfolding turned
  turned_lawful G e = (turning G (after_first G e).fine).lawful b (shrunk_lawful F G b (after_first G e).shrunk law)

  -- what is proved of the second half
  second_rules : (G : Face) → half_round F b ≡ goes_on G → RulesHold (turned G) b
  second_rules G e = rules (turned G) b (turning G (after_first G e).fine).fine (turned_lawful G e)

  -- no plan is possible where a round stops, and it holds windows inside the old ones
  pub round_stops : (c : Cause) (G : Face) → round F b ≡ stops c G → Comes F G × ((start : ℕ → ℕ) → Possible F start → ⊥)
  unfolding round
  round_stops c G e =
      ⊎_elim
      (λ t. (subst (Comes F) t.2 (record { shrunk = shrunk_none F; fine = fine }), λ start p. (rules F b fine law).overload_means_none t.0 t.1 start p))
      (λ t. (
        after_first G t.0,
        λ start p.
            (second_rules G t.0).overload_means_none t.1.0 t.1.1 (turned_plan G start)
            ((turning G (after_first G t.0).fine).plan start ((rules F b fine law).half_keeps G t.0 start p)),
      ))
      (first_stops F b (half_round F b) c G e)

  -- turned twice, a plan inside the windows starts its jobs at the same times
  turned_twice : (G H : Face) (start : ℕ → ℕ) → Fine G → Shrunk (turned G) H → Inside G start → (j : ℕ) → j < (turned H).n → turned_plan H (turned_plan G start) j ≡ start j
  unfolding turned
  turned_twice G H start good s p j h =
      let there : j < G.n = omega (arith, shrunk_n (turned G) H s) in
      omega (arith, shrunk_duration (turned G) H s j, p.closes j there, good.closes j there)

  -- both halves leave windows inside the old ones, and every possible plan is possible in them
  both_halves : (G H : Face) → half_round F b ≡ goes_on G → half_round (turned G) b ≡ goes_on H → Comes F (turned H) × ((start : ℕ → ℕ) → Possible F start → Possible (turned H) start)
  both_halves G H e f =
      let first = after_first G e in
      let second = second_rules G e in
      let shrinks = half_shrinks (turned G) b H f in
      let back = turning H (second.half_fine H f) in (
        record { shrunk = shrunk_more F G (turned H) first.shrunk (turned_shrunk G H first.fine shrinks); fine = back.fine },
        λ start p.
            let here = (rules F b fine law).half_keeps G e start p in
            let there = second.half_keeps H f (turned_plan G start) ((turning G first.fine).plan start here) in
            possible_same (turned H) (turned_plan H (turned_plan G start)) start (turned_twice G H start first.fine shrinks here.0) (back.plan (turned_plan G start) there),
      )

  -- a round that leaves windows found no two jobs that clash; they lie inside the old ones, and every possible plan is possible in them
  pub round_leaves : (G : Face) → round F b ≡ leaves G → (clashing F ≡ None) × Comes F G × ((start : ℕ → ℕ) → Possible F start → Possible G start)
  unfolding round
  round_leaves G e =
      let f = first_leaves F b (half_round F b) G e in
      let s = second_leaves f.0 (half_round (turned f.0) b) G f.2 in
      let both = both_halves f.0 s.0 f.1 s.1 in
      ((half_goes_on F b f.0 f.1).0, subst (Comes F) (sym s.2) both.0, λ start p. subst (λ X. Possible X start) (sym s.2) (both.1 start p))
