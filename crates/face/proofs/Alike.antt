-- Faces that show the same. Assumes nothing.
use Rattle.std.proofs.Common.{◌≡◌, ℕ, ◌-◌, ◌<◌, ◌≤◌, Bool, true, false, cond, ltb, List, length, get_or, take, Some, None, Option, sym, refl, ap, ◌∙◌, inr}
use Rattle.std.proofs.lemmas.Bool.{ltb-true}
use Rattle.std.proofs.lemmas.List.{get_or-take}
use Rattle.changeover.specs.declared.gaps.Gaps.{Gaps}
use Rattle.changeover.specs.Table.{jobs_of, gap_of}
use Rattle.rules.specs.declared.sheet.Window.{Window}
use Rattle.rules.specs.Faces.{of_job, turned}
use Rattle.face.specs.declared.face.Face.{Face}
use Rattle.face.specs.Limits.{in_limits}
use Rattle.face.specs.declared.job.Job.{Job}
use Rattle.face.specs.Shown.{shown, read_as, no_job, Checked, Made, Windowed, early_in, late_in, duration_in, early_end, late_end}
use Rattle.face.proofs.Fines.{of_job_is}

cond_same : (b : Bool) (x y : ℕ) → (b ≡ true → x ≡ y) → cond b x 0 ≡ cond b y 0
cond_same true x y h = h refl
cond_same false x y h = refl

pub of_job_same : (m n : ℕ) (f g : ℕ → ℕ) → m ≡ n → ((j : ℕ) → j < n → f j ≡ g j) → (j : ℕ) → of_job m f j ≡ of_job n g j
of_job_same m n f g e h j = ap (λ k. of_job k f j) e ∙ cond_same (ltb j n) (f j) (g j) (λ t. h j (ltb-true j n t))

-- f and g are the same below n
abbrev pub Agree : ℕ → (ℕ → ℕ) → (ℕ → ℕ) → Type 0
Agree n f g = (j : ℕ) → j < n → f j ≡ g j

module _ (gaps : Gaps) (early early' late late' duration duration' : ℕ → ℕ) (e : Agree (jobs_of gaps) early early') (l : Agree (jobs_of gaps) late late') (d : Agree (jobs_of gaps) duration duration') where
  same_read : read_as early late duration gaps ≡ read_as early' late' duration' gaps
  same_read =
      let n = jobs_of gaps in
      λ r. record {
        n = n;
        early = λ j. of_job_same n n early early' refl e j r;
        late = λ j. of_job_same n n late late' refl l j r;
        duration = λ j. of_job_same n n duration duration' refl d j r;
        gap = gap_of gaps;
      }

  same_limits : (j : ℕ) → j < jobs_of gaps → in_limits (duration j) (early j) (late j) ≡ in_limits (duration' j) (early' j) (late' j)
  same_limits j h = ap (λ x. in_limits x (early j) (late j)) (d j h) ∙ ap (λ x. in_limits (duration' j) x (late j)) (e j h) ∙ ap (λ x. in_limits (duration' j) (early' j) x) (l j h)

  -- what is checked of some numbers is checked of equal ones
  pub same_checked : (answer : Option Face) → Checked early late duration gaps answer → Checked early' late' duration' gaps answer
  same_checked None (j, h, out) = (j, h, sym (same_limits j h) ∙ out)
  same_checked (Some F) (all, is) = ((λ j h. sym (same_limits j h) ∙ all j h), is ∙ same_read)

-- what is checked of jobs that are given one by one
pub checked_from : (jobs : List Job) (val : ℕ → Job) (gaps : Gaps) (answer : Option Face) → ((j : ℕ) → j < jobs_of gaps → get_or jobs j no_job ≡ val j) → Checked (early_in jobs) (late_in jobs) (duration_in jobs) gaps answer → Checked (λ j. (val j).early) (λ j. (val j).late) (λ j. (val j).duration) gaps answer
checked_from jobs val gaps answer each checked =
    same_checked gaps (early_in jobs) (λ j. (val j).early) (late_in jobs) (λ j. (val j).late) (duration_in jobs) (λ j. (val j).duration) (λ j h. ap (λ x. x.early) (each j h)) (λ j h. ap (λ x. x.late) (each j h)) (λ j h. ap (λ x. x.duration) (each j h)) answer checked

-- what holds of the first n jobs
pub limits_of_firsts : (n : ℕ) (jobs : List Job) → n ≤ length jobs → (j : ℕ) → j < n → in_limits (duration_in (take n jobs) j) (early_in (take n jobs) j) (late_in (take n jobs) j) ≡ in_limits (duration_in jobs j) (early_in jobs j) (late_in jobs j)
limits_of_firsts n jobs long j h = ap (λ x. in_limits x.duration x.early x.late) (get_or-take n jobs j no_job h)

-- a face of turned jobs shows the jobs turned
pub turned_is : (F G : Face) → jobs_of G.gaps ≡ jobs_of F.gaps → ((j : ℕ) → j < jobs_of F.gaps → get_or G.jobs j no_job ≡ record { duration = (shown F).duration j; early = 1000000 - (shown F).late j; late = 1000000 - (shown F).early j }) → ((i j : ℕ) → gap_of G.gaps i j ≡ gap_of F.gaps j i) → shown G ≡ turned (shown F)
unfolding shown turned
turned_is F G en each hg =
    let n = jobs_of F.gaps in
    let m = jobs_of G.gaps in
    let e0 : (j : ℕ) → of_job m (early_in G.jobs) j ≡ of_job n (λ k. 1000000 - of_job n (late_in F.jobs) k) j = of_job_same m n _ _ en (λ j h. ap (λ x. x.early) (each j h)) in
    let e1 : (j : ℕ) → of_job m (late_in G.jobs) j ≡ of_job n (λ k. 1000000 - of_job n (early_in F.jobs) k) j = of_job_same m n _ _ en (λ j h. ap (λ x. x.late) (each j h)) in
    let e2 : (j : ℕ) → of_job m (duration_in G.jobs) j ≡ of_job n (duration_in F.jobs) j = of_job_same m n _ _ en (λ j h. ap (λ x. x.duration) (each j h) ∙ of_job_is n (duration_in F.jobs) j h) in
    λ r. record { n = en r; early = λ j. e0 j r; late = λ j. e1 j r; duration = λ j. e2 j r; gap = λ i j. hg i j r }

pub made_from : (jobs : List Job) (gaps : Gaps) (answer : Option Face) → length jobs ≡ jobs_of gaps → Checked (early_in jobs) (late_in jobs) (duration_in jobs) gaps answer → Made jobs gaps answer
made_from jobs gaps None same out = inr out
made_from jobs gaps (Some F) same (all, is) = (same, all, is)

pub windowed_from : (F : Face) (windows : List Window) (answer : Option Face) → Checked (early_end windows) (late_end windows) (shown F).duration F.gaps answer → Windowed F windows answer
unfolding shown
windowed_from F windows None out = out
windowed_from F windows (Some G) (all, is) =
    let n = jobs_of F.gaps in
    let twice : (j : ℕ) → of_job n (of_job n (duration_in F.jobs)) j ≡ of_job n (duration_in F.jobs) j = of_job_same n n _ _ refl (λ j h. of_job_is n (duration_in F.jobs) j h) in
    (all, is ∙ (λ r. record { n = n; early = of_job n (early_end windows); late = of_job n (late_end windows); duration = λ j. twice j r; gap = gap_of F.gaps }))
