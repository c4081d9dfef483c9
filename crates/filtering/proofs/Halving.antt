-- What a half round finds and leaves. Assumes nothing.
use Rattle.std.proofs.Common.{◌≡◌, ℕ, ◌+◌, ◌<◌, ◌≤◌, min, max, Bool, true, false, ltb, List, Some, None, Option, Ok, Err, sym, refl, ap, ◌∙◌, subst, arith}
use Rattle.std.proofs.lemmas.Bool.{ltb-false, both_ways}
use Rattle.std.specs.Option.{MatchOption}
use Rattle.rules.specs.declared.outcome.Overload.{Overload}
use Rattle.rules.specs.declared.outcome.Overload.TheVariants.{NeitherFirst, TooShort}
use Rattle.rules.specs.declared.sheet.Window.{Window}
use Rattle.rules.specs.Faces.{Face, with_windows}
use Rattle.rules.specs.Places.{first_such}
use Rattle.rules.specs.Rules.{pair_early, clash, found, clashing, overloading, detected_early, edge_early, not_last_late, new_early, new_late, shortened, Half, overloaded, goes_on, unless, half_round}
use Rattle.rules.specs.Theorems.{Fine}
use Rattle.rules.proofs.Searches.{such_none}
use Rattle.face.specs.declared.reading.Reading.{Reading}
use Rattle.face.specs.Readings.{bound_of, read}
use Rattle.face.specs.Shown.{early_end, late_end, SomeOut}
use Rattle.face.proofs.Fines.{limits_from}
use Rattle.face.proofs.Alike.{of_job_same}
use Rattle.filtering.specs.Ends.{verdict, Ruled}
use Rattle.filtering.specs.Pairs.{first_with}
use Rattle.filtering.proofs.Finds.{such_from, such_same}

-- what `find_map` over the jobs says of rule 1
pub clashing_from : (F : Face) (o : Option Overload) → MatchOption o ((k : ℕ) → k < F.n → None ≡ first_with F k) (λ x. (i : ℕ) × (i < F.n) × (Some x ≡ first_with F i) × ((k : ℕ) → k < i → None ≡ first_with F k)) → o ≡ clashing F
unfolding clashing
clashing_from F o gave = go o gave
  where
    clashes : ℕ → Bool
    clashes i = found (first_such (clash F i) F.n)

    told : ℕ → Option ℕ → Option Overload
    told i p = elim p [ None ↦ None | Some j ↦ Some (NeitherFirst i j) ]

    lowest : Option ℕ → Option Overload
    lowest p = elim p [ None ↦ None | Some i ↦ first_with F i ]

    none : (i : ℕ) (p : Option ℕ) → None ≡ told i p → found p ≡ false
    none i None e = refl
    none i (Some j) e = absurd (grind arith)

    some : (i : ℕ) (x : Overload) (p : Option ℕ) → Some x ≡ told i p → found p ≡ true
    some i x None e = absurd (grind arith)
    some i x (Some j) e = refl

    go : (o : Option Overload) → MatchOption o ((k : ℕ) → k < F.n → None ≡ first_with F k) (λ x. (i : ℕ) × (i < F.n) × (Some x ≡ first_with F i) × ((k : ℕ) → k < i → None ≡ first_with F k)) → o ≡ lowest (first_such clashes F.n)
    go None all = ap lowest (such_from clashes F.n None (λ k h. none k (first_such (clash F k) F.n) (all k h)))
    go (Some x) (i, h, e, all) = e ∙ ap lowest (such_from clashes F.n (Some i) (h, some i x (first_such (clash F i) F.n) e, λ k l. none k (first_such (clash F k) F.n) (all k l)))

-- the job that is told
abbrev pub short : Option ℕ → Option Overload
short o = elim o [ None ↦ None | Some i ↦ Some (TooShort i) ]

-- the window of job i is shorter than its duration
abbrev pub is_short : Face → List Window → ℕ → Bool
is_short F windows i = ltb (late_end windows i) (early_end windows i + F.duration i)

-- rule 7, where these are the new windows
pub shortened_by : (F : Face) (b : ℕ → ℕ) (windows : List Window) → Ruled F b windows → (o : Option ℕ) → o ≡ first_such (is_short F windows) F.n → short o ≡ shortened F b
unfolding shortened
shortened_by F b windows ruled o e =
    let at : ℕ → Bool = λ i. ltb (new_late F b i) (new_early F b i + F.duration i) in
    let same : (i : ℕ) → i < F.n → is_short F windows i ≡ at i = λ i h. let p = (ruled i h).0 in let q = (ruled i h).1 in cc in
    ap short (e ∙ such_same (is_short F windows) at F.n same)

-- where rule 7 finds nothing every window is long enough
long_enough : (F : Face) (b : ℕ → ℕ) → None ≡ shortened F b → (i : ℕ) → i < F.n → new_early F b i + F.duration i ≤ new_late F b i
unfolding shortened
long_enough F b e i h =
    let test : ℕ → Bool = λ k. ltb (new_late F b k) (new_early F b k + F.duration k) in
    let none : first_such test F.n ≡ None = go (first_such test F.n) (sym e) in
    ltb-false (new_late F b i) (new_early F b i + F.duration i) (such_none test F.n none i h)
  where
    go : (o : Option ℕ) → short o ≡ None → o ≡ None
    go None q = refl
    go (Some k) q = absurd (grind arith)

-- rules 3 to 6 together
pub new_early_is : (F : Face) (b : ℕ → ℕ) (i : ℕ) → max (F.early i) (max (pair_early F i) (max (detected_early F b i) (edge_early F b i))) ≡ new_early F b i
unfolding new_early
new_early_is F b i = refl

pub new_late_is : (F : Face) (b : ℕ → ℕ) (i : ℕ) → min (F.late i) (not_last_late F b i) ≡ new_late F b i
unfolding new_late
new_late_is F b i = refl

-- windows only shrink
late_shrinks : (F : Face) (b : ℕ → ℕ) (i : ℕ) → new_late F b i ≤ F.late i
unfolding new_late
late_shrinks F b i = omega arith

-- windows that are the same for each job make the same face
pub windows_same : (F : Face) (e e' l l' : ℕ → ℕ) → ((j : ℕ) → j < F.n → e j ≡ e' j) → ((j : ℕ) → j < F.n → l j ≡ l' j) → (G : Face) → G ≡ with_windows F e l → G ≡ with_windows F e' l'
windows_same F e e' l l' early late G is =
    let a = of_job_same F.n F.n e e' refl early in
    let z = of_job_same F.n F.n l l' refl late in
    is ∙ (λ r. record { n = F.n; early = λ j. a j r; late = λ j. z j r; duration = F.duration; gap = F.gap })

-- what a half round makes of its three tests
abbrev by_tests : Face → (ℕ → ℕ) → Option Overload → Option Overload → Option Overload → Half
by_tests F b x y z = unless x (unless y (unless z (goes_on (with_windows F (new_early F b) (new_late F b)))))

by_tests_are : (F : Face) (b : ℕ → ℕ) (x y z : Option Overload) → x ≡ clashing F → y ≡ overloading F b → z ≡ shortened F b → by_tests F b x y z ≡ half_round F b
unfolding half_round
by_tests_are F b x y z e f g = ap (λ o. by_tests F b o y z) e ∙ ap (λ o. by_tests F b (clashing F) o z) f ∙ ap (by_tests F b (clashing F) (overloading F b)) g

-- the first test found something
pub half_clash : (F : Face) (b : ℕ → ℕ) (x : Overload) → Some x ≡ clashing F → overloaded x ≡ half_round F b
half_clash F b x e = by_tests_are F b (Some x) (overloading F b) (shortened F b) e refl refl

-- where it found nothing
module _ (F : Face) (b : ℕ → ℕ) (no_clash : None ≡ clashing F) where
  -- the second test found something
  pub half_overload : (x : Overload) → Some x ≡ overloading F b → overloaded x ≡ half_round F b
  half_overload x f = by_tests_are F b None (Some x) (shortened F b) no_clash f refl

  -- the third did
  pub half_short : (x : Overload) → None ≡ overloading F b → Some x ≡ shortened F b → overloaded x ≡ half_round F b
  half_short x f g = by_tests_are F b None None (Some x) no_clash f g

  -- none did
  pub half_on : None ≡ overloading F b → None ≡ shortened F b → (G : Face) → G ≡ with_windows F (new_early F b) (new_late F b) → goes_on G ≡ half_round F b
  half_on f g G windows = ap goes_on windows ∙ by_tests_are F b None None None no_clash f g

-- where rule 7 finds nothing, every job stays in its limits in the new windows
pub none_out : (F : Face) (b : ℕ → ℕ) (windows : List Window) → Fine F → None ≡ shortened F b → Ruled F b windows → SomeOut F.n (early_end windows) (late_end windows) F.duration → ⊥
none_out F b windows fine e ruled out =
    let j = out.0 in
    let h = out.1 in
    let long = long_enough F b e j h in
    let inside = limits_from (F.duration j) (early_end windows j) (late_end windows j) (record {
      lasts = (fine.lasts j h).0;
      short = (fine.lasts j h).1;
      wide = omega (arith, (ruled j h).0, (ruled j h).1);
      closes = omega (arith, (ruled j h).1, late_shrinks F b j, fine.closes j h);
    }) in
    both_ways _ out.2 inside

-- what a test answers tells what it found
pub found_some : (x : Overload) (o : Option Overload) → Err x ≡ verdict o → Some x ≡ o
found_some x None e = absurd (grind arith)
found_some x (Some y) e = grind arith

pub found_none : (o : Option Overload) → Ok tt ≡ verdict o → None ≡ o
found_none None e = refl
found_none (Some y) e = absurd (grind arith)

-- what is known of a calm reading, which is of a face and a bound, is known of these
module _ {W : Type 0} (at : W → ℕ → ℕ) (F : Face) (w : W) (made calm : Reading W) (face : read made ≡ F) (bound : bound_of made ≡ w) (same : calm ≡ made) where
  pub calm_by : overloading (read calm) (at (bound_of calm)) ≡ None → None ≡ overloading F (at w)
  calm_by e = sym e ∙ ap (λ R. overloading (read R) (at (bound_of R))) same ∙ ap (λ X. overloading X (at (bound_of made))) face ∙ ap (λ v. overloading F (at v)) bound

  pub ruled_by : (windows : List Window) → Ruled (read calm) (at (bound_of calm)) windows → Ruled F (at w) windows
  ruled_by windows ruled = subst (λ v. Ruled F (at v) windows) bound (subst (λ X. Ruled X (at (bound_of made)) windows) face (subst (λ R. Ruled (read R) (at (bound_of R)) windows) same ruled))
