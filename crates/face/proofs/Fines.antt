-- What holds of every face. Assumes nothing.
use Rattle.std.proofs.Common.{◌≡◌, ℕ, ◌+◌, ◌<◌, ◌≤◌, true, ◌&&◌, ltb, leb, take, get_or, Ok, Err, refl, sym, ◌∙◌, ⊎_elim, arith}
use Rattle.std.proofs.lemmas.Bool.{lt-ltb, le-ltb, leb-true, le-leb, cond-true, cond-false, and_parts, and_from, cases_lt}
use Rattle.std.proofs.lemmas.List.{get_or-take, get_or_past, length-take}
use Rattle.changeover.specs.Table.{jobs_of}
use Rattle.theta.specs.declared.refusals.LeafRefusal.{LeafRefusal}
use Rattle.theta.specs.Refusals.{leaf_answer}
use Rattle.rules.specs.Faces.{of_job, earliest_finish}
use Rattle.rules.specs.Theorems.{Fine}
use Rattle.face.specs.declared.face.Face.{Face}
use Rattle.face.specs.Limits.{in_limits}
use Rattle.face.specs.Shown.{shown, no_job, early_in, late_in, duration_in, job_of}

pub of_job_is : (n : ℕ) (x : ℕ → ℕ) (j : ℕ) → j < n → of_job n x j ≡ x j
of_job_is n x j h = cond-true (ltb j n) (x j) 0 (lt-ltb j n h)

pub of_job_out : (n : ℕ) (x : ℕ → ℕ) (j : ℕ) → n ≤ j → of_job n x j ≡ 0
of_job_out n x j h = cond-false (ltb j n) (x j) 0 (le-ltb j n h)

-- the limits of a job, one by one
pub record Limits (duration early late : ℕ) : Type 0 where
  pub lasts : 1 ≤ duration
  pub short : duration ≤ 100000
  pub wide : early + duration ≤ late
  pub closes : late ≤ 1000000

pub limits : (d e l : ℕ) → in_limits d e l ≡ true → Limits d e l
limits d e l t =
    let a = and_parts (leb 1 d) (leb d 100000 && (leb (e + d) l && leb l 1000000)) t in
    let b = and_parts (leb d 100000) (leb (e + d) l && leb l 1000000) a.1 in
    let c = and_parts (leb (e + d) l) (leb l 1000000) b.1 in
    record { lasts = leb-true 1 d a.0; short = leb-true d 100000 b.0; wide = leb-true (e + d) l c.0; closes = leb-true l 1000000 c.1 }

pub limits_from : (d e l : ℕ) → Limits d e l → in_limits d e l ≡ true
limits_from d e l h =
    and_from (leb 1 d) _ (le-leb 1 d h.lasts) (and_from (leb d 100000) _ (le-leb d 100000 h.short) (and_from (leb (e + d) l) _ (le-leb (e + d) l h.wide) (le-leb l 1000000 h.closes)))

-- what the answer to a leaf's numbers says of them
leaf_made : {N : Type 0} (d f : ℕ) (x y : N) → Ok x ≡ leaf_answer d f y → (1 ≤ d) × (x ≡ y)
leaf_made d f x y e = ((grind arith), (grind arith))

leaf_refused : {N : Type 0} (d f : ℕ) (y : N) (why : LeafRefusal) → Err why ≡ leaf_answer d f y → 1 ≤ d → d ≤ 100000 → f ≤ 1000000 → ⊥
leaf_refused d f y why e low high small = grind arith

module _ (F : Face) where
  pub n_is : (shown F).n ≡ jobs_of F.gaps
  unfolding shown
  n_is = refl

  pub early_is : (j : ℕ) → j < jobs_of F.gaps → (shown F).early j ≡ early_in F.jobs j
  unfolding shown
  early_is j h = of_job_is (jobs_of F.gaps) (early_in F.jobs) j h

  pub late_is : (j : ℕ) → j < jobs_of F.gaps → (shown F).late j ≡ late_in F.jobs j
  unfolding shown
  late_is j h = of_job_is (jobs_of F.gaps) (late_in F.jobs) j h

  pub duration_is : (j : ℕ) → j < jobs_of F.gaps → (shown F).duration j ≡ duration_in F.jobs j
  unfolding shown
  duration_is j h = of_job_is (jobs_of F.gaps) (duration_in F.jobs) j h

  pub early_out : (j : ℕ) → jobs_of F.gaps ≤ j → (shown F).early j ≡ 0
  unfolding shown
  early_out j h = of_job_out (jobs_of F.gaps) (early_in F.jobs) j h

  pub late_out : (j : ℕ) → jobs_of F.gaps ≤ j → (shown F).late j ≡ 0
  unfolding shown
  late_out j h = of_job_out (jobs_of F.gaps) (late_in F.jobs) j h

  pub duration_out : (j : ℕ) → jobs_of F.gaps ≤ j → (shown F).duration j ≡ 0
  unfolding shown
  duration_out j h = of_job_out (jobs_of F.gaps) (duration_in F.jobs) j h

  pub each_fits : (j : ℕ) → j < jobs_of F.gaps → Limits (duration_in F.jobs j) (early_in F.jobs j) (late_in F.jobs j)
  each_fits j h = limits _ _ _ (F.fits j h)

  pub fine : Fine (shown F)
  fine = record {
    few = omega (arith, n_is, F.gaps.few);
    lasts = λ j h. let k : j < jobs_of F.gaps = omega (arith, n_is) in let e = each_fits j k in (omega (arith, duration_is j k), omega (arith, duration_is j k));
    wide = λ j h. let k : j < jobs_of F.gaps = omega (arith, n_is) in let e = each_fits j k in omega (arith, duration_is j k, early_is j k, late_is j k);
    closes = λ j h. let k : j < jobs_of F.gaps = omega (arith, n_is) in let e = each_fits j k in omega (arith, late_is j k);
  }

  -- the windows of what is no job are long enough too
  pub wide_anyway : (j : ℕ) → (shown F).early j + (shown F).duration j ≤ (shown F).late j
  wide_anyway j = ⊎_elim (λ h. fine.wide j (omega (arith, n_is))) (λ h. omega (arith, early_out j h, duration_out j h)) (cases_lt j (jobs_of F.gaps))

  pub late_small : (j : ℕ) → (shown F).late j ≤ 1000000
  late_small j = ⊎_elim (λ h. fine.closes j (omega (arith, n_is))) (λ h. omega (arith, late_out j h)) (cases_lt j (jobs_of F.gaps))

  pub duration_small : (j : ℕ) → (shown F).duration j ≤ 100000
  duration_small j = ⊎_elim (λ h. omega (arith, fine.lasts j (omega (arith, n_is)))) (λ h. omega (arith, duration_out j h)) (cases_lt j (jobs_of F.gaps))

  -- the job at a place of the first n
  pub job_is : (j n : ℕ) → n ≡ jobs_of F.gaps → get_or (take n F.jobs) j no_job ≡ job_of (shown F) j
  job_is j n e =
      ⊎_elim
      (λ h. get_or-take n F.jobs j no_job (omega arith) ∙ (λ r. record { duration = sym (duration_is j h) r; early = sym (early_is j h) r; late = sym (late_is j h) r }))
      (λ h. get_or_past (take n F.jobs) j no_job (omega (arith, length-take n F.jobs)) ∙ (λ r. record { duration = sym (duration_out j h) r; early = sym (early_out j h) r; late = sym (late_out j h) r }))
      (cases_lt j (jobs_of F.gaps))

  -- there is a leaf of each job
  pub leaf_there : {N : Type 0} (j : ℕ) (x y : N) → Ok x ≡ leaf_answer ((shown F).duration j) (earliest_finish (shown F) j) y → (j < (shown F).n) × (x ≡ y)
  leaf_there j x y e =
      let made = leaf_made ((shown F).duration j) (earliest_finish (shown F) j) x y e in
      (⊎_elim (λ h. h) (λ out. absurd (omega (arith, made.0, duration_out j (omega (arith, n_is))))) (cases_lt j (shown F).n), made.1)

  -- and of no other
  pub no_leaf_there : {N : Type 0} (j : ℕ) (y : N) (why : LeafRefusal) → Err why ≡ leaf_answer ((shown F).duration j) (earliest_finish (shown F) j) y → (shown F).n ≤ j
  no_leaf_there j y why e =
      ⊎_elim
      (λ h. absurd (leaf_refused ((shown F).duration j) (earliest_finish (shown F) j) y why e (fine.lasts j h).0 (duration_small j) (omega (arith, wide_anyway j, late_small j))))
      (λ out. out)
      (cases_lt j (shown F).n)
