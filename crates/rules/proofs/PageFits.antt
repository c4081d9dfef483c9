-- The numbers of a sheet fit its page, and a page that has them is accepted as that sheet. Assumes nothing.
use Rattle.std.proofs.Common.{◌≡◌, ℕ, ◌+◌, ◌-◌, ◌*◌, ◌/◌, ◌%◌, ◌<◌, ◌≤◌, true, false, ◌&&◌, eqb, ltb, List, [], ◌∷◌, length, get_or, Some, None, Ok, Err, Option, Result, sym, refl, ap, ◌∙◌, subst, ⊎_elim, arith}
use Rattle.std.proofs.lemmas.List.{ext_get_or}
use Rattle.std.proofs.lemmas.Bool.{and_from, or_left, or_right, both_ways, eq-eqb, ne_eqb, lt-ltb, cases_lt, cases_Bool, cond-true, cond-false, cond_both}
use Rattle.matrix.specs.declared.refusals.MatrixRefusal.{MatrixRefusal}
use Rattle.matrix.specs.declared.refusals.MatrixRefusal.TheVariants.{Setups, Count, TooGreat, Triangle}
use Rattle.matrix.specs.Matrix.{changeover, Setup, matrix_answer, Accepted, Judged}
use Rattle.matrix.proofs.Matrices.{judged}
use Rattle.rules.specs.declared.outcome.Cause.{Cause}
use Rattle.rules.specs.declared.sheet.Status.{Status}
use Rattle.rules.specs.declared.sheet.Status.TheVariants.{Open, Settled, Overloaded}
use Rattle.rules.specs.declared.sheet.Job.{Job}
use Rattle.rules.specs.declared.sheet.Window.{Window}
use Rattle.rules.specs.Faults.{record_start}
use Rattle.rules.specs.Cards.{member, is_card, chained}
use Rattle.rules.specs.Books.{Book, no_job, no_window, job_on, posted_on, laid_out}
use Rattle.rules.specs.Models.{Model, held_on, job_answer, Meaning, Law, outcome, status_of}
use Rattle.rules.specs.Sounds.{Sound}
use Rattle.rules.specs.Pages.{status_number, first_of, next_in, le16, page_numbers, job_in, posted_in, held_in, links, jobs_pass, first_stray, page_book, page_sheet, same_held, agrees, Behind}
use Rattle.rules.proofs.Chains.{card_within, within_card, member_card, parts}
use Rattle.rules.proofs.Sounds.{laid_long, laid_at, Fitting, passes, passes_as}
use Rattle.rules.proofs.Links.{linked_links, next_linked}
use Rattle.rules.proofs.PageBytes.{CardNumbers, card_from, Reading, Small}
use Rattle.rules.proofs.PageReads.{Read, listed, listed_long, listed_on, listed_off}
use Rattle.rules.proofs.Promised.{held_within}
use Rattle.rules.proofs.PageParts.{numbers_long, numbers_at, laid_page, changeover_belongs, card_belongs, zero_unused, Zero, zero_then16, zero_then32, off_numbers}

-- the number of a status
status_small : (s : Status) → status_number s ≤ 2
status_small Open = omega arith
status_small Settled = omega arith
status_small Overloaded = omega arith

settled_number : (o : Option Cause) → status_number (status_of o) ≡ 0 → ⊥
settled_number None e = omega arith
settled_number (Some c) e = omega arith

-- a chain leads to cards
first_small : (ks : List ℕ) → chained ks ≡ true → first_of ks ≤ 32
first_small [] c = omega arith
first_small (k ∷ ks) c = (card_within k (parts k ks c).card).1

next_small : (ks : List ℕ) (x : ℕ) → chained ks ≡ true → next_in ks x ≤ 32
next_small [] x c = omega arith
next_small (k ∷ ks) x c =
    let q = parts k ks c in
    cond_both (eqb k x) (first_of ks) (next_in ks x) (λ n. n ≤ 32) (λ _. first_small ks q.rest) (λ _. next_small ks x q.rest)

-- numbers that make accepts
accepted_answer : (m : ℕ) (numbers : List ℕ) → Accepted m numbers → (r : Result (Unit {0}) MatrixRefusal) → Judged m numbers r → r ≡ Ok tt
accepted_answer m numbers a (Ok x) j = refl
accepted_answer m numbers a (Err (Setups given)) j = absurd (j.1 a.sized)
accepted_answer m numbers a (Err (Count given)) j = absurd (j.2 a.complete)
accepted_answer m numbers a (Err (TooGreat e)) j =
    let g = j.2 in absurd (omega (arith, g.above, g.minutes, a.small e.from e.to g.setups.0 g.setups.1))
accepted_answer m numbers a (Err (Triangle t)) j =
    let g = j.3 in absurd (omega (arith, g.longer, a.triangular t.from t.to t.via g.setups.0 g.setups.1 g.setups.2))

-- the numbers of a sheet fit their bytes
module _ (f : Meaning) (law : Law f) (M : Model) (sound : Sound M.book) (behind : Behind f M) where
  fits_on : (card : ℕ) → member card M.book.chain ≡ true → Fitting M.book.setups (job_on M.book card) (posted_on M.book card)
  fits_on card m = passes M.book.setups (job_on M.book card) (posted_on M.book card) (sound.passing card m)

  held_small : (card : ℕ) → member card M.book.chain ≡ true → ((held_on M card).early ≤ (held_on M card).late) × ((held_on M card).late ≤ (posted_on M.book card).late)
  held_small card m =
      let P : Model → Type 0 = λ X. ((held_on X card).early ≤ (held_on X card).late) × ((held_on X card).late ≤ (posted_on M.book card).late) in
      ⊎_elim
      (λ e. subst P (sym e) (omega (arith, (fits_on card m).wide), omega arith))
      (λ e. subst P (sym e) (held_within M.book sound f law card m))
      behind

  small_card : (card : ℕ) → is_card card ≡ true → CardNumbers (λ k x. x < 65536) (λ k x. x < 4294967296) M card
  small_card card is =
      ⊎_elim
      (λ m.
      let w = fits_on card m in
      let h = held_small card m in
      record {
        next = omega (arith, next_small M.book.chain card sound.chained);
        setup = omega (arith, w.known, sound.sized);
        duration = omega (arith, w.lasts);
        opens = omega (arith, w.wide, w.closes);
        closes = omega (arith, w.closes);
        held_opens = omega (arith, h, w.closes);
        held_closes = omega (arith, h, w.closes);
      })
      (λ m. let n = off_numbers f M sound behind card is m in card_from M (λ k x e _. omega arith) (λ k x e _. omega arith) card n n)
      (cases_Bool (member card M.book.chain))

  pub sheet_small : M.rounds < 4294967296 → Small M
  sheet_small rounds = record {
    version = omega arith;
    setups = omega (arith, sound.sized);
    first = omega (arith, first_small M.book.chain sound.chained);
    status = omega (arith, status_small M.status);
    rounds = rounds;
    changeovers = λ k _. omega (arith, sound.small k);
    cards = small_card;
  }

-- jobs that pass, and windows that are the same
all_pass : (p : List ℕ) (m : ℕ) (cards : List ℕ) → ((card : ℕ) → member card cards ≡ true → job_answer m (job_in p card) (posted_in p card) ≡ Ok tt) → jobs_pass p m cards ≡ Ok tt
all_pass p m [] each = refl
all_pass p m (x ∷ xs) each =
    rw (each x (or_left (eqb x x) (member x xs) (eq-eqb x x refl))) (all_pass p m xs (λ card h. each card (or_right (eqb card x) (member card xs) h)))

all_held : (p : List ℕ) (M : Model) (cards : List ℕ) → ((card : ℕ) → member card cards ≡ true → ((held_in p card).early ≡ (held_on M card).early) × ((held_in p card).late ≡ (held_on M card).late)) → same_held p M cards ≡ true
all_held p M [] each = refl
all_held p M (x ∷ xs) each =
    let here = each x (or_left (eqb x x) (member x xs) (eq-eqb x x refl)) in
    and_from _ _ (and_from _ _ (eq-eqb _ _ here.0) (eq-eqb _ _ here.1)) (all_held p M xs (λ card h. each card (or_right (eqb card x) (member card xs) h)))

-- the same numbers make the same job, window and book
same_job : (s t d e : ℕ) → s ≡ t → d ≡ e → ◌≡◌ {A = Job} (record { setup = s; duration = d }) (record { setup = t; duration = e })
same_job s t d e g h = cc

same_window : (a b c d : ℕ) → a ≡ b → c ≡ d → ◌≡◌ {A = Window} (record { early = a; late = c }) (record { early = b; late = d })
same_window a b c d g h = cc

same_book : (m : ℕ) (chain cs ds : List ℕ) (js ks : List Job) (vs ws : List Window) → cs ≡ ds → js ≡ ks → vs ≡ ws → ◌≡◌ {A = Book} (record { setups = m; changeovers = cs; chain = chain; jobs = js; posted = vs }) (record { setups = m; changeovers = ds; chain = chain; jobs = ks; posted = ws })
same_book m chain cs ds js ks vs ws e g h = cc

-- what is listed of a page's cards is the sheet's
listed_same : {X : Type 0} (of : ℕ → X) (none : X) (cards : List ℕ) (xs : List X) → length xs ≡ 32 → ((card : ℕ) → is_card card ≡ true → member card cards ≡ true → of card ≡ get_or xs (card - 1) none) → ((card : ℕ) → is_card card ≡ true → member card cards ≡ false → get_or xs (card - 1) none ≡ none) → listed of none cards ≡ xs
listed_same of none cards xs long on off =
    let n = listed_long of none cards in
    ext_get_or none (listed of none cards) xs (n ∙ sym long)
    (λ k h.
    let is = within_card (k + 1) (omega arith) (omega arith) in
    let back : k + 1 - 1 ≡ k = omega arith in
    subst (λ i. get_or (listed of none cards) i none ≡ get_or xs i none) back
    (⊎_elim
    (λ m. listed_on of none cards (k + 1) is m ∙ on (k + 1) is m)
    (λ m. listed_off of none cards (k + 1) is m ∙ sym (off (k + 1) is m))
    (cases_Bool (member (k + 1) cards))))

-- A PAGE WHOSE NUMBERS ARE A SHEET'S IS ACCEPTED AS THAT SHEET
module _ (f : Meaning) (p : List ℕ) (M : Model) (long : length p ≡ 1292) (r : Reading p M) (sound : Sound M.book) (behind : Behind f M) where
  -- its matrix
  changeover_same : (a b : ℕ) → Setup M.book.setups a → Setup M.book.setups b → changeover M.book.setups (page_numbers p M.book.setups) a b ≡ changeover 16 M.book.changeovers a b
  changeover_same a b sa sb =
      let within = sound.sized in
      numbers_at p M.book.setups (a - 1) (b - 1) (omega arith) (omega arith) ∙ r.changeovers (16 * (a - 1) + (b - 1)) (omega arith)

  matrix_accepted : matrix_answer M.book.setups (page_numbers p M.book.setups) ≡ Ok tt
  matrix_accepted =
      accepted_answer M.book.setups (page_numbers p M.book.setups)
      (record {
        sized = sound.sized;
        complete = numbers_long p M.book.setups;
        small = λ a b sa sb. omega (arith, changeover_same a b sa sb, sound.small (16 * (a - 1) + (b - 1)));
        triangular = λ a b c sa sb sc.
            omega (arith, sound.triangular a b c sa sb sc, changeover_same a b sa sb, changeover_same a c sa sc, changeover_same c b sc sb);
      })
      (matrix_answer M.book.setups (page_numbers p M.book.setups)) (judged M.book.setups (page_numbers p M.book.setups))

  changeovers_same : laid_out M.book.setups (page_numbers p M.book.setups) ≡ M.book.changeovers
  changeovers_same =
      let m = M.book.setups in
      let wide = laid_long m (page_numbers p m) in
      ext_get_or 0 (laid_out m (page_numbers p m)) M.book.changeovers (wide ∙ sym sound.long_changeovers)
      (λ k h.
      let lt : k < 256 = omega arith in
      ⊎_elim
      (λ on. laid_page p m k lt on ∙ r.changeovers k lt)
      (λ off. laid_at m (page_numbers p m) k lt ∙ (cond-false _ _ _ off ∙ sym (sound.outside k off)))
      (cases_Bool (ltb (k / 16) m && ltb (k % 16) m)))

  -- its cards
  job_same : (card : ℕ) → is_card card ≡ true → job_in p card ≡ job_on M.book card
  job_same card is = let c = r.cards card is in same_job _ _ _ _ c.setup c.duration

  posted_same : (card : ℕ) → is_card card ≡ true → posted_in p card ≡ posted_on M.book card
  posted_same card is = let c = r.cards card is in same_window _ _ _ _ c.opens c.closes

  pub page_book_same : page_book p M.book.setups M.book.chain ≡ M.book
  unfolding page_book
  page_book_same =
      let B = M.book in
      same_book B.setups B.chain _ _ _ _ _ _ changeovers_same
      (listed_same (job_in p) no_job B.chain B.jobs sound.long_jobs (λ card is _. job_same card is) (λ card is m. (sound.blank card is m).0))
      (listed_same (posted_in p) no_window B.chain B.posted sound.long_posted (λ card is _. posted_same card is) (λ card is m. (sound.blank card is m).1))

  -- its links and its jobs
  on_card : (card : ℕ) → member card M.book.chain ≡ true → is_card card ≡ true
  on_card card m = member_card card M.book.chain sound.chained m

  page_linked : links p ≡ Ok M.book.chain
  page_linked =
      linked_links p M.book.chain sound.chained
      (next_linked p (le16 p 4) M.book.chain sound.chained r.first (λ card m. (r.cards card (on_card card m)).next))

  page_passes : jobs_pass p M.book.setups M.book.chain ≡ Ok tt
  page_passes =
      all_pass p M.book.setups M.book.chain
      (λ card m. passes_as M.book.setups _ _ _ _ (job_same card (on_card card m)) (posted_same card (on_card card m)) (sound.passing card m))

  -- no stray byte
  off_zero : (card : ℕ) → is_card card ≡ true → member card M.book.chain ≡ false → Zero p (record_start card) (record_start card + 24)
  off_zero card is m =
      let at : ℕ = record_start card in
      let c = r.cards card is in
      let n = off_numbers f M sound behind card is m in
      zero_then16 p at (at + 2) (at + 24) (c.next ∙ n.next) (omega arith)
      (zero_then16 p (at + 2) (at + 4) (at + 24) (c.setup ∙ n.setup) (omega arith)
      (zero_then32 p (at + 4) (at + 8) (at + 24) (c.duration ∙ n.duration) (omega arith)
      (zero_then32 p (at + 8) (at + 12) (at + 24) (c.opens ∙ n.opens) (omega arith)
      (zero_then32 p (at + 12) (at + 16) (at + 24) (c.closes ∙ n.closes) (omega arith)
      (zero_then32 p (at + 16) (at + 20) (at + 24) (c.held_opens ∙ n.held_opens) (omega arith)
      (zero_then32 p (at + 20) (at + 24) (at + 24) (c.held_closes ∙ n.held_closes) (omega arith) (λ byte l u. absurd (omega arith))))))))

  page_clean : first_stray p M.book.setups M.book.chain ≡ None
  page_clean =
      let m = M.book.setups in
      zero_unused p m M.book.chain
      (λ byte h off.
      ⊎_elim
      (λ head. absurd (both_ways _ off (cond-true _ _ _ (lt-ltb byte 12 head))))
      (λ past.
      ⊎_elim
      (λ low.
      let k : ℕ = (byte - 12) / 2 in
      let lt : k < 256 = omega arith in
      let none = sound.outside k (sym (changeover_belongs m M.book.chain k byte lt (omega arith) (omega arith)) ∙ off) in
      zero_then16 p (12 + 2 * k) (12 + 2 * k + 2) (12 + 2 * k + 2) (r.changeovers k lt ∙ none) refl (λ b l u. absurd (omega arith)) byte (omega arith) (omega arith))
      (λ high.
      let card : ℕ = (byte - 524) / 24 + 1 in
      let is = within_card card (omega arith) (omega arith) in
      off_zero card is (sym (card_belongs m M.book.chain card byte is (omega arith) (omega arith)) ∙ off) byte (omega arith) (omega arith))
      (cases_lt byte 524))
      (cases_lt byte 12))

  -- status, rounds and windows
  page_agrees : agrees p M ≡ true
  page_agrees =
      and_from _ _ (eq-eqb _ _ r.status)
      (and_from _ _ (eq-eqb _ _ r.rounds)
      (all_held p M M.book.chain (λ card m. let c = r.cards card (on_card card m) in (c.held_opens, c.held_closes))))

  sheet_same : page_sheet f (le16 p 6) M.book ≡ M
  sheet_same =
      ⊎_elim
      (λ e. cond-true _ _ _ (eq-eqb (le16 p 6) 0 (r.status ∙ ap (λ X. status_number X.status) e)) ∙ sym e)
      (λ e.
      cond-false _ _ _ (ne_eqb (le16 p 6) 0 (λ z. settled_number (outcome f M.book).cause (sym (ap (λ X. status_number X.status) e) ∙ (sym r.status ∙ z))))
      ∙ sym e)
      behind

  pub reading_read : Read f p M
  reading_read =
      let P : ℕ → Type 0 = λ m. (matrix_answer m (page_numbers p m) ≡ Ok tt) × (jobs_pass p m M.book.chain ≡ Ok tt) × (first_stray p m M.book.chain ≡ None) × (page_book p m M.book.chain ≡ M.book) in
      let q = subst P (sym r.setups) (matrix_accepted, page_passes, page_clean, page_book_same) in
      record {
        cards = M.book.chain;
        size = long;
        version = r.version;
        matrix = q.0;
        status = omega (arith, r.status, status_small M.status);
        linked = page_linked;
        pass = q.1;
        clean = q.2;
        sheet = ap (page_sheet f (le16 p 6)) q.3 ∙ sheet_same;
        same = page_agrees;
      }
