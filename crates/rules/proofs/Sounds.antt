-- That the calls on a job book keep it sound, and that settling finds its jobs within their limits. Assumes nothing.
use Rattle.std.proofs.Common.{◌≡◌, ℕ, ◌+◌, ◌-◌, ◌*◌, ◌/◌, ◌%◌, ◌<◌, ◌≤◌, Bool, true, false, cond, ◌&&◌, ◌||◌, eqb, ltb, leb, ◌≢◌, List, [], ◌∷◌, ◌++◌, length, get_or, set, Ok, Err, Result, sym, refl, ap, ◌∙◌, subst, ⊎_elim, arith}
use Rattle.std.proofs.lemmas.Bool.{and_parts, or_right, eq-eqb, both_ways, leb-true, le-leb, lt-ltb, ltb-true, ne_eqb, cases_eq, cases_lt, cond_both, cond-false, true≢false}
use Rattle.std.proofs.lemmas.List.{length-set, get_or-set_same, get_or-set_other, get_or-replicate, get_or_past}
use Rattle.std.proofs.lemmas.List.FromFn.{length-map-range_with_len, get_or-map-range_with_len}
use Rattle.matrix.specs.Matrix.{changeover, matrix_answer, Setup, Accepted, Judged}
use Rattle.matrix.proofs.Matrices.{judged}
use Rattle.rules.specs.declared.refusals.JobRefusal.{JobRefusal}
use Rattle.rules.specs.declared.sheet.Job.{Job}
use Rattle.rules.specs.declared.sheet.Window.{Window}
use Rattle.rules.specs.Cards as cards
use Rattle.rules.specs.Cards.{member, is_card, without}
use Rattle.rules.specs.Faces.{horizon}
use Rattle.rules.specs.Plans.{Limits}
use Rattle.rules.specs.Books.{Book, no_job, no_window, job_on, posted_on, rising, card_at, jobs_in, laid, laid_out}
use Rattle.rules.specs.Models.{fresh_book, room_answer, job_answer, on_its_card, post_answer, card_answer, inside, narrow_answer, with_job, without_job, with_window}
use Rattle.rules.specs.Sounds.{Sound}
use Rattle.rules.proofs.Chains.{card_within, member_push, member_card, chained_push, without_same, without_other, chained_without, rising_few, placed}

-- a matrix that was accepted, laid into rows of 16
module _ (m : ℕ) (numbers : List ℕ) where
  pub laid_long : length (laid_out m numbers) ≡ 256
  unfolding laid_out
  laid_long = length-map-range_with_len (laid m numbers) 0 256

  pub laid_at : (k : ℕ) → k < 256 → get_or (laid_out m numbers) k 0 ≡ laid m numbers k
  unfolding laid_out
  laid_at k h = get_or-map-range_with_len (laid m numbers) 0 256 k k 0 h (omega arith)

  laid_outside : (k : ℕ) → (ltb (k / 16) m && ltb (k % 16) m) ≡ false → get_or (laid_out m numbers) k 0 ≡ 0
  laid_outside k e =
      ⊎_elim (λ h. laid_at k h ∙ cond-false _ _ _ e) (λ h. get_or_past (laid_out m numbers) k 0 (omega (arith, laid_long))) (cases_lt k 256)

  module _ (accepted : Accepted m numbers) where
    -- at the place of two setups stands the changeover between them
    laid_changeover : (a b : ℕ) → Setup m a → Setup m b → changeover 16 (laid_out m numbers) a b ≡ changeover m numbers a b
    laid_changeover a b sa sb =
        let within = accepted.sized in
        let row : (16 * (a - 1) + (b - 1)) / 16 ≡ a - 1 = omega arith in
        let column : (16 * (a - 1) + (b - 1)) % 16 ≡ b - 1 = omega arith in
        let h : a - 1 < m = omega arith in
        let g : b - 1 < m = omega arith in
        laid_at (16 * (a - 1) + (b - 1)) (omega arith) ∙ rw (row, column, lt-ltb (a - 1) m h, lt-ltb (b - 1) m g)

    laid_small : (k : ℕ) → get_or (laid_out m numbers) k 0 ≤ 10000
    laid_small k =
        ⊎_elim
        (λ h. rw (laid_at k h) (cond_both (ltb (k / 16) m && ltb (k % 16) m) (get_or numbers (m * (k / 16) + k % 16) 0) 0 (λ x. x ≤ 10000)
        (λ e.
        let p = and_parts (ltb (k / 16) m) (ltb (k % 16) m) e in
        let row : k / 16 + 1 - 1 ≡ k / 16 = omega arith in
        let column : k % 16 + 1 - 1 ≡ k % 16 = omega arith in
        rw (row, column) at (accepted.small (k / 16 + 1) (k % 16 + 1)
        (omega arith, omega (arith, ltb-true (k / 16) m p.0))
        (omega arith, omega (arith, ltb-true (k % 16) m p.1))))
        (λ _. omega arith)))
        (λ h. omega (arith, get_or_past (laid_out m numbers) k 0 (omega (arith, laid_long))))
        (cases_lt k 256)

-- the sheet that make leaves has a sound book
pub fresh_sound : (m : ℕ) (numbers : List ℕ) → matrix_answer m numbers ≡ Ok tt → Sound (fresh_book m numbers)
unfolding fresh_book
fresh_sound m numbers e =
    let accepted : Accepted m numbers = subst (Judged m numbers) e (judged m numbers) in record {
      sized = accepted.sized;
      long_changeovers = laid_long m numbers;
      small = laid_small m numbers accepted;
      triangular = λ a b c sa sb sc.
          omega (arith, accepted.triangular a b c sa sb sc, laid_changeover m numbers accepted a b sa sb, laid_changeover m numbers accepted a c sa sc, laid_changeover m numbers accepted c b sc sb);
      outside = laid_outside m numbers;
      chained = refl;
      long_jobs = refl;
      long_posted = refl;
      passing = λ card h. absurd (true≢false (sym h));
      blank = λ card c _.
          let w = card_within card c in
          (get_or-replicate 32 (card - 1) no_job no_job (omega arith), get_or-replicate 32 (card - 1) no_window no_window (omega arith));
    }

or_none : (b : Bool) → (b || false) ≡ b
or_none true = refl
or_none false = refl

-- a chain of questions that ends well had the right answer to each
pub asked_true : {E X : Type 0} {x : X} (b : Bool) (r : Result X E) (e : E) → cond b r (Err e) ≡ Ok x → (b ≡ true) × (r ≡ Ok x)
asked_true true r e h = (refl, h)
asked_true false r e h = absurd (let z : ◌≡◌ {A = ℕ} 0 1 = cc in omega arith)

pub asked_false : {E : Type 0} (b : Bool) (r : Result (Unit {0}) E) (e : E) → cond b (Err e) r ≡ Ok tt → (b ≡ false) × (r ≡ Ok tt)
asked_false true r e h = absurd (let z : ◌≡◌ {A = ℕ} 0 1 = cc in omega arith)
asked_false false r e h = (refl, h)

pub asked_job : (r : Result (Unit {0}) JobRefusal) → on_its_card r ≡ Ok tt → r ≡ Ok tt
asked_job (Ok x) h = refl
asked_job (Err e) h = absurd (let z : ◌≡◌ {A = ℕ} 0 1 = cc in omega arith)

-- what the questions of a job say of its numbers
pub record Fitting (m : ℕ) (job : Job) (w : Window) : Type 0 where
  pub known : Setup m job.setup
  pub lasts : (1 ≤ job.duration) × (job.duration ≤ 100000)
  pub closes : w.late ≤ 1000000
  pub wide : w.early + job.duration ≤ w.late

-- there is room for a job
roomy : (duration : ℕ) (w : Window) → room_answer duration w ≡ Ok tt → w.early + duration ≤ w.late
roomy duration w e =
    let q = (asked_true _ _ _ e).0 in
    let p = and_parts (leb w.early w.late) (leb duration (w.late - w.early)) q in
    omega (arith, leb-true w.early w.late p.0, leb-true duration (w.late - w.early) p.1)

-- a job passes its questions just where its numbers fit
pub passes : (m : ℕ) (job : Job) (w : Window) → job_answer m job w ≡ Ok tt → Fitting m job w
passes m job w e =
    let p = asked_true _ _ _ e in
    let q = asked_true _ _ _ p.1 in
    let r = asked_true _ _ _ q.1 in
    let s = and_parts (leb 1 job.setup) (leb job.setup m) p.0 in
    let d = and_parts (leb 1 job.duration) (leb job.duration 100000) q.0 in record {
      known = (leb-true 1 job.setup s.0, leb-true job.setup m s.1);
      lasts = (leb-true 1 job.duration d.0, leb-true job.duration 100000 d.1);
      closes = leb-true w.late horizon r.0;
      wide = roomy job.duration w r.1;
    }

pub fitting_passes : (m : ℕ) (job : Job) (w : Window) → Fitting m job w → job_answer m job w ≡ Ok tt
fitting_passes m job w f =
    let a = le-leb 1 job.setup f.known.0 in
    let b = le-leb job.setup m f.known.1 in
    let c = le-leb 1 job.duration f.lasts.0 in
    let d = le-leb job.duration 100000 f.lasts.1 in
    let e = le-leb w.late horizon f.closes in
    let g = le-leb w.early w.late (omega arith) in
    let h = le-leb job.duration (w.late - w.early) (omega arith) in
    rw (a, b, c, d, e, g, h)

-- a window inside one that fits does too, where there is room
narrower : (m : ℕ) (job : Job) (v w : Window) → Fitting m job v → inside w v ≡ true → room_answer job.duration w ≡ Ok tt → Fitting m job w
narrower m job v w f e room = record {
  known = f.known;
  lasts = f.lasts;
  closes = omega (arith, leb-true w.late v.late (and_parts (leb v.early w.early) (leb w.late v.late) e).1);
  wide = roomy job.duration w room;
}

-- equal jobs in equal windows pass alike
pub passes_as : (m : ℕ) (j k : Job) (v w : Window) → j ≡ k → v ≡ w → job_answer m k w ≡ Ok tt → job_answer m j v ≡ Ok tt
passes_as m j k v w e f h = ap (λ x. job_answer m x v) e ∙ (ap (λ x. job_answer m k x) f ∙ h)

-- what stands on a card, and on the others, after a write to it
module _ {X : Type 0} (xs : List X) (card : ℕ) (x d : X) (is : is_card card ≡ true) where
  pub on_same : length xs ≡ 32 → get_or (set xs (card - 1) x) (card - 1) d ≡ x
  on_same long = let w = card_within card is in get_or-set_same xs (card - 1) x d (omega arith)

  pub on_other : (other : ℕ) → is_card other ≡ true → other ≢ card → get_or (set xs (card - 1) x) (other - 1) d ≡ get_or xs (other - 1) d
  on_other other also ne =
      let w = card_within card is in
      let v = card_within other also in get_or-set_other xs (card - 1) (other - 1) x d (λ e. ne (omega arith))

-- a book stays sound where a call touches one card and leaves it sound
touched_sound : (B : Book) (chain : List ℕ) (jobs : List Job) (posted : List Window) (card : ℕ) → Sound B → cards.chained chain ≡ true → length jobs ≡ 32 → length posted ≡ 32 → ((other : ℕ) → is_card other ≡ true → other ≢ card → (member other chain ≡ member other B.chain) × (get_or jobs (other - 1) no_job ≡ job_on B other) × (get_or posted (other - 1) no_window ≡ posted_on B other)) → (member card chain ≡ true → job_answer B.setups (get_or jobs (card - 1) no_job) (get_or posted (card - 1) no_window) ≡ Ok tt) → (member card chain ≡ false → (get_or jobs (card - 1) no_job ≡ no_job) × (get_or posted (card - 1) no_window ≡ no_window)) → Sound (record { setups = B.setups; changeovers = B.changeovers; chain = chain; jobs = jobs; posted = posted })
touched_sound B chain jobs posted card s c long_jobs long_posted others on off = record {
  sized = s.sized;
  long_changeovers = s.long_changeovers;
  small = s.small;
  triangular = s.triangular;
  outside = s.outside;
  chained = c;
  long_jobs = long_jobs;
  long_posted = long_posted;
  passing = λ other m.
      ⊎_elim
      (λ same.
      subst (λ x. member x chain ≡ true → job_answer B.setups (get_or jobs (x - 1) no_job) (get_or posted (x - 1) no_window) ≡ Ok tt) (sym same) on m)
      (λ ne.
      let o = others other (member_card other chain c m) ne in passes_as B.setups _ _ _ _ o.1 o.2 (s.passing other (sym o.0 ∙ m)))
      (cases_eq other card);
  blank = λ other is m.
      ⊎_elim
      (λ same.
      subst (λ x. member x chain ≡ false → (get_or jobs (x - 1) no_job ≡ no_job) × (get_or posted (x - 1) no_window ≡ no_window)) (sym same) off m)
      (λ ne.
      let o = others other is ne in
      let b = s.blank other is (sym o.0 ∙ m) in (o.1 ∙ b.0, o.2 ∙ b.1))
      (cases_eq other card);
}

-- POST, accepted
pub posted_sound : (B : Book) (card : ℕ) (job : Job) (w : Window) → Sound B → post_answer B card job w ≡ Ok tt → Sound (with_job B card job w)
posted_sound B card job w s e =
    let p = asked_true _ _ _ e in
    let q = asked_false _ _ _ p.1 in
    let on = member_push card card B.chain ∙ or_right (member card B.chain) (eqb card card) (eq-eqb card card refl) in
    touched_sound B (B.chain ++ card ∷ []) (set B.jobs (card - 1) job) (set B.posted (card - 1) w) card s
    (chained_push B.chain card s.chained p.0 q.0)
    (length-set B.jobs (card - 1) job ∙ s.long_jobs)
    (length-set B.posted (card - 1) w ∙ s.long_posted)
    (λ other is ne. (
      member_push other card B.chain ∙ (ap (λ b. member other B.chain || b) (ne_eqb other card ne) ∙ or_none (member other B.chain)),
      on_other B.jobs card job no_job p.0 other is ne,
      on_other B.posted card w no_window p.0 other is ne,
    ))
    (λ _. passes_as B.setups _ _ _ _ (on_same B.jobs card job no_job p.0 s.long_jobs) (on_same B.posted card w no_window p.0 s.long_posted) (asked_job _ q.1))
    (λ off. absurd (both_ways _ off on))

-- NARROW, accepted
pub narrowed_sound : (B : Book) (card : ℕ) (w : Window) → Sound B → narrow_answer B card w ≡ Ok tt → Sound (with_window B card w)
narrowed_sound B card w s e =
    let p = asked_true _ _ _ e in
    let q = asked_true _ _ _ p.1 in
    let r = asked_true _ _ _ q.1 in
    let new = narrower B.setups (job_on B card) (posted_on B card) w (passes _ _ _ (s.passing card q.0)) r.0 (asked_job _ r.1) in
    touched_sound B B.chain B.jobs (set B.posted (card - 1) w) card s
    s.chained
    s.long_jobs
    (length-set B.posted (card - 1) w ∙ s.long_posted)
    (λ other is ne. (refl, refl, on_other B.posted card w no_window p.0 other is ne))
    (λ _. ap (job_answer B.setups (job_on B card)) (on_same B.posted card w no_window p.0 s.long_posted) ∙ fitting_passes B.setups (job_on B card) w new)
    (λ off. absurd (both_ways _ off q.0))

-- WITHDRAW, accepted
pub withdrawn_sound : (B : Book) (card : ℕ) → Sound B → card_answer B card ≡ Ok tt → Sound (without_job B card)
withdrawn_sound B card s e =
    let p = asked_true _ _ _ e in
    touched_sound B (without card B.chain) (set B.jobs (card - 1) no_job) (set B.posted (card - 1) no_window) card s
    (chained_without card B.chain s.chained)
    (length-set B.jobs (card - 1) no_job ∙ s.long_jobs)
    (length-set B.posted (card - 1) no_window ∙ s.long_posted)
    (λ other is ne. (
      without_other card other B.chain ne,
      on_other B.jobs card no_job no_job p.0 other is ne,
      on_other B.posted card no_window no_window p.0 other is ne,
    ))
    (λ on. absurd (both_ways _ (without_same card B.chain) on))
    (λ _. (on_same B.jobs card no_job no_job p.0 s.long_jobs, on_same B.posted card no_window no_window p.0 s.long_posted))

module _ (B : Book) (s : Sound B) where
  -- each job in card order has passed its questions
  pub job_passes : (j : ℕ) → j < length (rising B) → Fitting B.setups (job_on B (card_at B j)) (posted_on B (card_at B j))
  job_passes j h = passes _ _ _ (s.passing (card_at B j) (placed B.chain 32 j h).there)

  -- what settling asks of them
  pub limits : Limits (jobs_in B)
  unfolding jobs_in
  limits = record {
    few = rising_few B.chain 32;
    lasts = λ j h. rw (lt-ltb j (length (rising B)) h) (job_passes j h).lasts;
    wide = λ j h. rw (lt-ltb j (length (rising B)) h) (job_passes j h).wide;
    closes = λ j h. rw (lt-ltb j (length (rising B)) h) (job_passes j h).closes;
    triangle = λ i k j hi hk hj.
        rw (lt-ltb i (length (rising B)) hi, lt-ltb k (length (rising B)) hk, lt-ltb j (length (rising B)) hj)
        (s.triangular _ _ _ (job_passes i hi).known (job_passes j hj).known (job_passes k hk).known);
  }
