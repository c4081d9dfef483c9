-- The promises hold after every lawful history. Assumes nothing.
use Rattle.std.proofs.Common.{◌≡◌, ℕ, zero, suc, ◌+◌, ◌-◌, ◌<◌, ◌≤◌, true, false, cond, List, [], ◌∷◌, ◌++◌, length, get_or, take, Some, None, Ok, Err, Option, Result, sym, refl, ap, ◌∙◌, subst, ⊎_elim, arith, take-suc}
use mathlib.Core.Logic.{∥∥₁_map}
use Rattle.std.proofs.lemmas.Bool.{lt-ltb, cond-true, cond-false}
use Rattle.std.proofs.lemmas.List.{take_all}
use Rattle.std.proofs.lemmas.List.FromFn.{get_or-map-range_with_len}
use Rattle.changeover.specs.Rows.{Within}
use Rattle.rules.specs.declared.outcome.Cause.{Cause}
use Rattle.rules.specs.declared.sheet.Window.{Window}
use Rattle.rules.specs.declared.sheet.Status.TheVariants.{Settled, Overloaded}
use Rattle.rules.specs.Cards.{member, is_card, rising_to}
use Rattle.rules.specs.Faces.{Face}
use Rattle.rules.specs.Plans.{Jobs, Chain, Fits, gap_between, face_of}
use Rattle.rules.specs.Settling.{minutes}
use Rattle.rules.specs.Theorems.{SettlingHolds}
use Rattle.rules.specs.Books.{Book, no_window, job_on, posted_on, rising, card_at, jobs_in, PlanFits}
use Rattle.rules.specs.Models.{Model, held_on, fresh_book, reopened, post_answer, narrow_answer, card_answer, with_job, without_job, with_window, left_by, Meaning, Law, outcome, window_after, by_card, status_of, settled_book}
use Rattle.rules.specs.declared.faults.PageFault.{PageFault}
use Rattle.rules.specs.Pages.{read_page, loaded, Behind}
use Rattle.rules.specs.Histories.{Call, posts, narrows, withdraws, settles, loads, History, made, ◌▸◌, asked, step, book_after, sheet_after, LawfulCall, LawfulHistory, minutes_of, cut_from, minutes_cut, Promises, PromisesKept, Leads, Kept, Stays}
use Rattle.rules.proofs.Chains.{card_within, within_card, member_card, placed, Found, found}
use Rattle.rules.proofs.Fitting.{first_face_fine}
use Rattle.rules.proofs.Rounds.{shrunk_n}
use Rattle.rules.proofs.SettleEnds.{settles_ends}
use Rattle.rules.proofs.Settlings.{settling_holds}
use Rattle.rules.proofs.Turns.{of_job_is}
use Rattle.rules.proofs.Sound.{rules_hold, turning_holds}
use Rattle.rules.specs.Sounds.{Sound}
use Rattle.rules.proofs.Sounds.{fresh_sound, posted_sound, narrowed_sound, withdrawn_sound, limits}
use Rattle.rules.proofs.PageReads.{read_sound, read_behind}

-- what holds of what was there and of what an accepted call leaves holds of what is left
pub left_holds : {E X : Type 0} (r : Result (Unit {0}) E) (new old : X) (P : X → Type 0) → (r ≡ Ok tt → P new) → P old → P (left_by r new old)
left_holds (Ok x) new old P p q = p refl
left_holds (Err e) new old P p q = q

pub loaded_holds : {X : Type 0} (r : Result Model PageFault) (new : Model → X) (old : X) (P : X → Type 0) → ((M : Model) → r ≡ Ok M → P (new M)) → P old → P (loaded r new old)
loaded_holds (Ok M) new old P p q = p M refl
loaded_holds (Err e) new old P p q = q

-- every call keeps a book sound
pub asked_sound : (B : Book) (c : Call) → Sound B → Sound (asked B c)
asked_sound B (posts card job w) s = left_holds (post_answer B card job w) (with_job B card job w) B Sound (posted_sound B card job w s) s
asked_sound B (narrows card w) s = left_holds (narrow_answer B card w) (with_window B card w) B Sound (narrowed_sound B card w s) s
asked_sound B (withdraws card) s = left_holds (card_answer B card) (without_job B card) B Sound (withdrawn_sound B card s) s
asked_sound B (settles f) s = s
asked_sound B (loads page f) s = loaded_holds (read_page f page) (λ M. M.book) B Sound (λ M e. read_sound f page M e) s

-- so does every lawful history
pub sound_after : (h : History) → LawfulHistory h → Sound (book_after h)
sound_after (made m numbers) l = fresh_sound m numbers l
sound_after (h ▸ c) l = asked_sound (book_after h) c (sound_after h l.0)

-- what is left of a sheet has what is left of its book
pub left_book : {E : Type 0} (r : Result (Unit {0}) E) (new old : Model) → (left_by r new old).book ≡ left_by r new.book old.book
left_book (Ok x) new old = refl
left_book (Err e) new old = refl

pub loaded_book : (r : Result Model PageFault) (old : Model) → (loaded r (λ M. M) old).book ≡ loaded r (λ M. M.book) old.book
loaded_book (Ok M) old = refl
loaded_book (Err e) old = refl

pub step_book : (M : Model) (c : Call) → (step M c).book ≡ asked M.book c
step_book M (posts card job w) = left_book (post_answer M.book card job w) (reopened (with_job M.book card job w)) M
step_book M (narrows card w) = left_book (narrow_answer M.book card w) (reopened (with_window M.book card w)) M
step_book M (withdraws card) = left_book (card_answer M.book card) (reopened (without_job M.book card)) M
step_book M (settles f) = refl
step_book M (loads page f) = loaded_book (read_page f page) M

-- the sheet has the book that its questions leave
pub same_book : (h : History) → (sheet_after h).book ≡ book_after h
unfolding fresh_book
same_book (made m numbers) = refl
same_book (h ▸ c) = step_book (sheet_after h) c ∙ ap (λ B. asked B c) (same_book h)

-- a plan fits where one does that starts the jobs at the same times
chain_as : (R Q : ℕ → ℕ → Type 0) (n : ℕ) → ((i j : ℕ) → i < n → j < n → R i j → Q i j) → (xs : List ℕ) → Within n xs → Chain R xs → Chain Q xs
chain_as R Q n to [] w c = tt
chain_as R Q n to (x ∷ []) w c = tt
chain_as R Q n to (x ∷ (y ∷ ys)) w c = (to x y w.0 w.1.0 c.0, chain_as R Q n to (y ∷ ys) w.1 c.1)

fits_as : (J : Jobs) (start other : ℕ → ℕ) → ((j : ℕ) → j < J.n → start j ≡ other j) → Fits J start → Fits J other
fits_as J start other same fits = record {
  opens = λ j h. omega (arith, fits.opens j h, same j h);
  closes = λ j h. omega (arith, fits.closes j h, same j h);
  order = fits.order;
  whole = fits.whole;
  apart = chain_as _ _ J.n (λ i j hi hj r. omega (arith, same i hi, same j hj)) fits.order fits.whole.within fits.apart;
}

-- the windows of a face by card: on each card of the book that of its job
module _ (B : Book) (F : Face) where
  abbrev pub window_of : ℕ → Window
  window_of j = record { early = F.early j; late = F.late j }

  by_card_is : (card : ℕ) → is_card card ≡ true → get_or (by_card B F) (card - 1) no_window ≡ cond (member card B.chain) (window_of (length (rising_to B.chain (card - 1)))) no_window
  unfolding by_card
  by_card_is card is =
      let w = card_within card is in
      let back : card - 1 + 1 ≡ card = omega arith in
      get_or-map-range_with_len (window_after B F) 0 32 (card - 1) (card - 1) no_window (omega arith) (omega arith) ∙ ap (λ x. cond (member x B.chain) (window_of (length (rising_to B.chain (card - 1)))) no_window) back

  pub by_card_on : (card : ℕ) → member card B.chain ≡ true → is_card card ≡ true → get_or (by_card B F) (card - 1) no_window ≡ window_of (length (rising_to B.chain (card - 1)))
  by_card_on card m is = by_card_is card is ∙ cond-true _ _ _ m

  -- and none on the others
  pub by_card_off : (card : ℕ) → member card B.chain ≡ false → is_card card ≡ true → get_or (by_card B F) (card - 1) no_window ≡ no_window
  by_card_off card m is = by_card_is card is ∙ cond-false _ _ _ m

  -- by the number of the job in card order
  pub by_card_at : (j : ℕ) → j < length (rising B) → get_or (by_card B F) (card_at B j - 1) no_window ≡ window_of j
  by_card_at j h = let p = placed B.chain 32 j h in by_card_on (card_at B j) p.there (within_card (card_at B j) p.low p.high) ∙ ap window_of p.place

-- one card more
cut_push : (B : Book) (M : Model) (cards : List ℕ) (card : ℕ) → cut_from B M (cards ++ card ∷ []) ≡ cut_from B M cards + (minutes_of (posted_on B card) - minutes_of (held_on M card))
cut_push B M [] card = omega arith
cut_push B M (x ∷ xs) card = omega (arith, cut_push B M xs card)

-- what the windows of a face have less than the posted ones is cut
cut_minutes : (B : Book) (M : Model) (F : Face) → ((j : ℕ) → j < length (rising B) → held_on M (card_at B j) ≡ window_of B F j) → (k : ℕ) → k ≤ length (rising B) → minutes (face_of (jobs_in B)) k ≤ minutes F k + cut_from B M (take k (rising B))
unfolding minutes jobs_in
cut_minutes B M F held zero h = omega arith
cut_minutes B M F held (suc k) h =
    let there : k < length (rising B) = omega arith in
    let earlier = cut_minutes B M F held k (omega arith) in
    rw (take-suc (rising B) k 0 there, lt-ltb k (length (rising B)) there)
    (omega (arith, cut_push B M (take k (rising B)) (card_at B k), ap minutes_of (held k there)))

-- what the status says of the cause
cause_none : (o : Option Cause) → status_of o ≡ Settled → o ≡ None
cause_none None e = refl
cause_none (Some c) e = absurd (let z : ◌≡◌ {A = ℕ} 0 1 = cc in omega arith)

cause_some : (o : Option Cause) → status_of o ≡ Overloaded → (c : Cause) × (o ≡ Some c)
cause_some None e = absurd (let z : ◌≡◌ {A = ℕ} 0 1 = cc in omega arith)
cause_some (Some c) e = (c, refl)

module _ (B : Book) (sound : Sound B) where
  on_chain : (card : ℕ) → member card B.chain ≡ true → is_card card ≡ true
  on_chain card m = member_card card B.chain sound.chained m

  -- the job on a card, by its number in card order
  pub found_on : (card : ℕ) → member card B.chain ≡ true → Found B.chain 32 card
  found_on card m = let w = card_within card (on_chain card m) in found B.chain 32 card m w.0 w.1

  duration_at : (j : ℕ) → j < length (rising B) → (jobs_in B).duration j ≡ (job_on B (card_at B j)).duration
  unfolding jobs_in
  duration_at j h = of_job_is (length (rising B)) (λ k. (job_on B (card_at B k)).duration) j h

  -- a plan that fits lies inside the posted windows
  plan_inside : (start : ℕ → ℕ) → PlanFits B start → (card : ℕ) → member card B.chain ≡ true → ((posted_on B card).early ≤ start card) × (start card + (job_on B card).duration ≤ (posted_on B card).late)
  unfolding jobs_in
  plan_inside start fits card m =
      let f = found_on card m in
      let j = length (rising_to B.chain (card - 1)) in
      let there = lt-ltb j (length (rising B)) f.below in
      (rw (there, f.here) at (fits.opens j f.below), rw (there, f.here) at (fits.closes j f.below))

  -- an open sheet holds the posted windows
  pub reopened_promises : Promises B (reopened B)
  reopened_promises = record {
    same_book = refl;
    no_plan_when_overloaded = λ e. absurd (let z : ◌≡◌ {A = ℕ} 0 1 = cc in omega arith);
    every_plan_inside_held = plan_inside;
    single_starts_fit = λ e. absurd (let z : ◌≡◌ {A = ℕ} 0 1 = cc in omega arith);
    rounds_within_minutes_cut = λ shut. absurd (shut refl);
  }

  module _ (f : Meaning) (law : Law f) where
    -- settling the jobs of the book
    settles_well : SettlingHolds (jobs_in B) (f (jobs_in B).n (gap_between (jobs_in B))) (outcome f B)
    unfolding outcome
    settles_well = settling_holds rules_hold turning_holds (jobs_in B) _ (limits B sound) (law _ _)

    -- of as many jobs
    as_many : (outcome f B).held.n ≡ (jobs_in B).n
    as_many =
        let J = jobs_in B in
        shrunk_n (face_of J) (outcome f B).held
        (settles_ends rules_hold turning_holds (f J.n (gap_between J)) settles_well.by_the_rules (first_face_fine J (limits B sound)) (law J.n (gap_between J))).held.shrunk

    -- each promise, by card
    settled_inside : (start : ℕ → ℕ) → PlanFits B start → (card : ℕ) → member card B.chain ≡ true → ((held_on (settled_book f B) card).early ≤ start card) × (start card + (job_on B card).duration ≤ (held_on (settled_book f B) card).late)
    unfolding jobs_in
    settled_inside start fits card m =
        let is = found_on card m in
        let j = length (rising_to B.chain (card - 1)) in
        let w = by_card_on B (outcome f B).held card m (on_chain card m) in
        let p = settles_well.every_plan_inside_held (λ k. start (card_at B k)) fits j is.below in
        let d = duration_at j is.below ∙ ap (λ x. (job_on B x).duration) is.here in
        (omega (arith, ap (λ x. x.early) w, p.0, ap start is.here), omega (arith, ap (λ x. x.late) w, p.1, d, ap start is.here))

    -- the windows held lie inside the posted ones
    pub held_within : (card : ℕ) → member card B.chain ≡ true → ((held_on (settled_book f B) card).early ≤ (held_on (settled_book f B) card).late) × ((held_on (settled_book f B) card).late ≤ (posted_on B card).late)
    unfolding jobs_in
    held_within card m =
        let is = found_on card m in
        let j = length (rising_to B.chain (card - 1)) in
        let w = by_card_on B (outcome f B).held card m (on_chain card m) in
        let h = settles_well.held_inside_posted j is.below in
        let late = of_job_is (length (rising B)) (λ k. (posted_on B (card_at B k)).late) j is.below ∙ ap (λ x. (posted_on B x).late) is.here in
        (omega (arith, ap (λ x. x.early) w, ap (λ x. x.late) w, h.2), omega (arith, ap (λ x. x.late) w, h.1, late))

    settled_fits : (settled_book f B).status ≡ Settled → ((card : ℕ) → member card B.chain ≡ true → (held_on (settled_book f B) card).late ≡ (held_on (settled_book f B) card).early + (job_on B card).duration) → PlanFits B (λ card. (held_on (settled_book f B) card).early)
    unfolding jobs_in
    settled_fits e single =
        let F = (outcome f B).held in
        fits_as (jobs_in B) F.early (λ j. (held_on (settled_book f B) (card_at B j)).early)
        (λ j h. sym (ap (λ x. x.early) (by_card_at B F j h)))
        (settles_well.single_starts_fit (cause_none (outcome f B).cause e)
        (λ j h.
        let w = by_card_at B F j h in
        omega (arith, single (card_at B j) (placed B.chain 32 j h).there, ap (λ x. x.early) w, ap (λ x. x.late) w, duration_at j h)))

    settled_rounds : (settled_book f B).rounds ≤ minutes_cut B (settled_book f B) + 1
    unfolding jobs_in
    settled_rounds =
        let F = (outcome f B).held in
        let n = length (rising B) in
        let cut = cut_minutes B (settled_book f B) F (by_card_at B F) n (omega arith) in
        omega (arith, settles_well.rounds_within_minutes_cut, cut, ap (minutes F) as_many, ap (cut_from B (settled_book f B)) (take_all n (rising B) (omega arith)))

    -- a settled sheet holds the windows that settling leaves
    pub settled_promises : Promises B (settled_book f B)
    settled_promises = record {
      same_book = refl;
      no_plan_when_overloaded = λ e start fits.
          let c = cause_some (outcome f B).cause e in settles_well.no_plan_when_overloaded c.0 c.1 (λ j. start (card_at B j)) fits;
      every_plan_inside_held = settled_inside;
      single_starts_fit = settled_fits;
      rounds_within_minutes_cut = λ _. settled_rounds;
    }

-- the promises hold of what is left, where they hold of what an accepted call leaves
pub left_promises : {E : Type 0} (r : Result (Unit {0}) E) (new old : Model) → (r ≡ Ok tt → Promises new.book new) → Promises old.book old → Promises (left_by r new.book old.book) (left_by r new old)
left_promises (Ok x) new old p q = p refl
left_promises (Err e) new old p q = q

pub loaded_promises : (r : Result Model PageFault) (old : Model) → ((M : Model) → r ≡ Ok M → Promises M.book M) → Promises old.book old → Promises (loaded r (λ M. M.book) old.book) (loaded r (λ M. M) old)
loaded_promises (Ok M) old p q = p M refl
loaded_promises (Err e) old p q = q

-- they hold of a sheet that is open, or was settled
pub behind_promises : (M : Model) (f : Meaning) → Law f → Sound M.book → Behind f M → Promises M.book M
behind_promises M f law s b =
    ⊎_elim
    (λ e. subst (Promises M.book) (sym e) (reopened_promises M.book s))
    (λ e. subst (Promises M.book) (sym e) (settled_promises M.book s f law))
    b

-- every call keeps the promises
pub step_promises : (M : Model) (c : Call) → LawfulCall c → Sound M.book → Promises M.book M → Promises (asked M.book c) (step M c)
step_promises M (posts card job w) law s p =
    let B = with_job M.book card job w in
    left_promises (post_answer M.book card job w) (reopened B) M (λ e. reopened_promises B (posted_sound M.book card job w s e)) p
step_promises M (narrows card w) law s p =
    let B = with_window M.book card w in
    left_promises (narrow_answer M.book card w) (reopened B) M (λ e. reopened_promises B (narrowed_sound M.book card w s e)) p
step_promises M (withdraws card) law s p =
    let B = without_job M.book card in
    left_promises (card_answer M.book card) (reopened B) M (λ e. reopened_promises B (withdrawn_sound M.book card s e)) p
step_promises M (settles f) law s p = settled_promises M.book s f law
step_promises M (loads page f) law s p =
    loaded_promises (read_page f page) M
    (λ M' e. behind_promises M' f law (read_sound f page M' e) (read_behind f page M' e)) p

-- THE THEOREM
pub promises_kept : PromisesKept
promises_kept (made m numbers) l = reopened_promises (fresh_book m numbers) (fresh_sound m numbers l)
promises_kept (h ▸ c) l =
    let M = sheet_after h in
    let same = same_book h in
    subst (λ B. Promises (asked B c) (step M c)) same
    (step_promises M c l.1 (subst Sound (sym same) (sound_after h l.0)) (subst (λ B. Promises B M) (sym same) (promises_kept h l.0)))

-- what making a sheet owes
pub kept_made : (h : History) (M : Model) → LawfulHistory h → M ≡ sheet_after h → Kept h M
kept_made h M law exact = record {
  leads = record { lawful = law; to = sym exact };
  promises = subst (Promises (book_after h)) (sym exact) (promises_kept h law);
}

-- what a call owes: its exact effect, and the law of the bound that it brings
pub stays : (M M' : Model) (c : Call) → LawfulCall c → M' ≡ step M c → Stays M c M'
stays M M' c law exact h led = kept_made (h ▸ c) M' (led.lawful, law) (exact ∙ ap (λ X. step X c) (sym led.to))

-- a sheet that some lawful history leads to is so after a call
pub reaches : (M M' : Model) (c : Call) → LawfulCall c → M' ≡ step M c → ∥ ((h : History) × Leads h M) ∥₁ → ∥ ((h : History) × Leads h M') ∥₁
reaches M M' c law exact some = ∥∥₁_map {B = (h : History) × Leads h M'} some (λ w. (w.0 ▸ c, (stays M M' c law exact w.0 w.1).leads))

-- and its book is sound
pub sound_led : (h : History) (M : Model) → Leads h M → Sound M.book
sound_led h M led = subst (λ X. Sound X.book) led.to (subst Sound (sym (same_book h)) (sound_after h led.lawful))
