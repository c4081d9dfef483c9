-- The face of a sheet is the first face of its job book. Assumes nothing.
use Rattle.std.proofs.Common.{◌≡◌, ℕ, ◌+◌, ◌-◌, ◌*◌, ◌<◌, ◌≤◌, Bool, true, false, cond, ◌≢◌, ◌⊎◌, List, length, get_or, take, sym, refl, ap, ◌∙◌, inl, inr, arith, length-take}
use mathlib.Core.Logic.{∥∥₁_elim}
use mathlib.Core.HLevel.{⊥_prop}
use native.Mathlib.Bridge.{le_prop}
use Rattle.std.proofs.lemmas.List.{get_or-take}
use Rattle.std.proofs.lemmas.Bool.{le-leb, both_ways}
use Rattle.changeover.specs.declared.gaps.Gaps.{Gaps}
use Rattle.changeover.specs.Table.{jobs_of, gap_of, among}
use Rattle.matrix.specs.Matrix.{changeover}
use Rattle.rules.specs.Plans.{face_of}
use Rattle.rules.specs.Books.{Book, job_on, posted_on, rising, card_at, jobs_in}
use Rattle.rules.specs.Sounds.{Sound}
use Rattle.rules.proofs.Sounds.{Fitting, job_passes}
use Rattle.face.proofs.Alike.{of_job_same}
use Rattle.face.specs.declared.job.Job.{Job as Timed}
use Rattle.face.specs.Limits.{in_limits}
use Rattle.face.specs.Shown.{read_as, no_job, early_in, late_in, duration_in, SomeOut}
use Rattle.sheet.specs.Read.{gap_at, gap_among, timed_at}

cond_same : (b : Bool) (x y : ℕ) → (b ≡ true → x ≡ y) → cond b x 0 ≡ cond b y 0
cond_same true x y h = h refl
cond_same false x y h = refl

-- a job that passes its questions is in the limits of a face
pub in_its_limits : (m : ℕ) (duration early late setup : ℕ) → Fitting m (record { setup = setup; duration = duration }) (record { early = early; late = late }) → in_limits duration early late ≡ true
in_its_limits m duration early late setup fit =
    rw (le-leb 1 duration fit.lasts.0, le-leb duration 100000 fit.lasts.1, le-leb (early + duration) late fit.wide, le-leb late 1000000 fit.closes)

module _ (B : Book) (good : ∥ Sound B ∥₁) (g : Gaps) (jobs : List Timed) (n : ℕ) (count : n ≡ length (rising B)) (many : jobs_of g ≡ length (rising B)) (gaps_are : (i j : ℕ) → gap_of g i j ≡ gap_among B.changeovers B.jobs (rising B) i j) (each : (i : ℕ) → i < length (rising B) → get_or jobs i no_job ≡ timed_at B.jobs B.posted (rising B) i) where
  timed_is : (i : ℕ) → i < length (rising B) → get_or (take n jobs) i no_job ≡ timed_at B.jobs B.posted (rising B) i
  timed_is i h = get_or-take n jobs i no_job (omega arith) ∙ each i h

  -- no changeover is cut
  uncut : (i j : ℕ) → gap_at B.changeovers B.jobs (rising B) i j ≡ changeover 16 B.changeovers (job_on B (card_at B i)).setup (job_on B (card_at B j)).setup
  uncut i j =
      let x = changeover 16 B.changeovers (job_on B (card_at B i)).setup (job_on B (card_at B j)).setup in
      let small : x ≤ 10000 = ∥∥₁_elim good le_prop (λ s. s.small (16 * ((job_on B (card_at B i)).setup - 1) + ((job_on B (card_at B j)).setup - 1))) in
      omega arith

  pub faces : read_as (early_in (take n jobs)) (late_in (take n jobs)) (duration_in (take n jobs)) g ≡ face_of (jobs_in B)
  unfolding jobs_in
  faces =
      λ r. record {
        n = many r;
        early = λ j. of_job_same (jobs_of g) (length (rising B)) (early_in (take n jobs)) (λ i. (posted_on B (card_at B i)).early) many (λ i h. ap (λ (t : Timed). t.early) (timed_is i h)) j r;
        late = λ j. of_job_same (jobs_of g) (length (rising B)) (late_in (take n jobs)) (λ i. (posted_on B (card_at B i)).late) many (λ i h. ap (λ (t : Timed). t.late) (timed_is i h)) j r;
        duration = λ j. of_job_same (jobs_of g) (length (rising B)) (duration_in (take n jobs)) (λ i. (job_on B (card_at B i)).duration) many (λ i h. ap (λ (t : Timed). t.duration) (timed_is i h)) j r;
        gap = λ i j. (gaps_are i j ∙ cond_same (among (length (rising B)) i j) _ _ (λ _. uncut i j)) r;
      }

  -- so a face can be made of it
  pub fits : length jobs ≡ 32 → n ≤ 32 → (length (take n jobs) ≢ jobs_of g) ⊎ SomeOut (jobs_of g) (early_in (take n jobs)) (late_in (take n jobs)) (duration_in (take n jobs)) → ⊥
  fits long few (inl other) = other (simp length-take (omega arith))
  fits long few (inr (i, h, out)) =
      let within : i < length (rising B) = omega arith in
      let t = timed_is i within in
      ∥∥₁_elim good ⊥_prop
      (λ s.
      both_ways _ (sym (ap (λ (x : Timed). in_limits x.duration x.early x.late) t) ∙ out) (in_its_limits B.setups _ _ _ (job_on B (card_at B i)).setup (job_passes B s i within)))
