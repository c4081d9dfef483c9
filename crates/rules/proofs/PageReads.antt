-- What an accepted page has: a sound book, and what its status says of the windows held. Assumes nothing.
use Rattle.std.proofs.Common.{◌≡◌, ℕ, ◌+◌, ◌-◌, ◌≤◌, true, false, cond, eqb, List, [], ◌∷◌, map, length, get_or, Some, None, Ok, Err, Option, Result, sym, refl, ap, ◌∙◌, subst, inl, inr, ⊎_elim, arith}
use Rattle.std.specs.List.{range_with_len}
use Rattle.std.proofs.lemmas.Bool.{or_cases, leb-true, le-leb, eqb-true, eq-eqb, cases_Bool, cond_both, cond-true, cond-false, true≢false}
use Rattle.std.proofs.lemmas.List.FromFn.{length-map-range_with_len, get_or-map-range_with_len}
use Rattle.matrix.specs.Matrix.{matrix_answer}
use Rattle.rules.specs.declared.refusals.JobRefusal.{JobRefusal}
use Rattle.rules.specs.declared.faults.ChainFault.{ChainFault}
use Rattle.rules.specs.declared.faults.PageFault.{PageFault}
use Rattle.rules.specs.Faults.{in_chain}
use Rattle.rules.specs.Cards.{member, is_card, chained}
use Rattle.rules.specs.Books.{no_job, no_window}
use Rattle.rules.specs.Models.{Model, fresh_book, reopened, job_answer, Meaning, settled_book}
use Rattle.rules.specs.Sounds.{Sound}
use Rattle.rules.specs.Pages.{le16, page_numbers, job_in, posted_in, links, on_record, then, jobs_pass, chain_answer, first_stray, page_book, page_sheet, agrees, unless_stray, read_page, Behind}
use Rattle.rules.proofs.Chains.{card_within, member_card}
use Rattle.rules.proofs.Links.{links_linked}
use Rattle.rules.proofs.Sounds.{fresh_sound, asked_true, passes_as}

-- THE PAGE IS ACCEPTED, as this sheet: each question has the answer "yes"
pub record Read (f : Meaning) (p : List ℕ) (M : Model) : Type 0 where
  pub cards : List ℕ
  pub size : length p ≡ 1292
  pub version : le16 p 0 ≡ 1
  pub matrix : matrix_answer (le16 p 2) (page_numbers p (le16 p 2)) ≡ Ok tt
  pub status : le16 p 6 ≤ 2
  pub linked : links p ≡ Ok cards
  pub pass : jobs_pass p (le16 p 2) cards ≡ Ok tt
  pub clean : first_stray p (le16 p 2) cards ≡ None
  pub sheet : page_sheet f (le16 p 6) (page_book p (le16 p 2) cards) ≡ M
  pub same : agrees p M ≡ true

-- what goes on was found, and no byte is stray
then_ok : {X Y E F : Type 0} (raise : E → F) (r : Result X E) (rest : X → Result Y F) (y : Y) → then raise r rest ≡ Ok y → (x : X) × (r ≡ Ok x) × (rest x ≡ Ok y)
then_ok raise (Ok x) rest y e = (x, refl, e)
then_ok raise (Err d) rest y e = absurd (let z : ◌≡◌ {A = ℕ} 0 1 = cc in omega arith)

stray_ok : {X : Type 0} (o : Option ℕ) (r : Result X PageFault) (x : X) → unless_stray o r ≡ Ok x → (o ≡ None) × (r ≡ Ok x)
stray_ok None r x e = (refl, e)
stray_ok (Some byte) r x e = absurd (let z : ◌≡◌ {A = ℕ} 0 1 = cc in omega arith)

pub chain_ok : (p : List ℕ) (m : ℕ) (cards : List ℕ) → chain_answer p m ≡ Ok cards → (links p ≡ Ok cards) × (jobs_pass p m cards ≡ Ok tt)
chain_ok p m cards e =
    let a = then_ok (λ d. d) (links p) (λ ks. then (λ d. d) (jobs_pass p m ks) (λ _. Ok ks)) cards e in
    let b = then_ok (λ d. d) (jobs_pass p m a.0) (λ _. Ok a.0) cards a.2 in
    let same : a.0 ≡ cards = cc b.2 in
    (a.1 ∙ ap Ok same, sym (ap (jobs_pass p m) same) ∙ b.1)

-- what an accepted page says
pub read_facts : (f : Meaning) (p : List ℕ) (M : Model) → read_page f p ≡ Ok M → Read f p M
unfolding read_page
read_facts f p M e =
    let a = asked_true _ _ _ e in
    let b = asked_true _ _ _ a.1 in
    let c = then_ok _ _ _ M b.1 in
    let d = asked_true _ _ _ c.2 in
    let g = then_ok _ _ _ M d.1 in
    let h = chain_ok p (le16 p 2) g.0 g.1 in
    let i = stray_ok _ _ M g.2 in
    let j = asked_true _ _ _ i.1 in
    let same : page_sheet f (le16 p 6) (page_book p (le16 p 2) g.0) ≡ M = cc j.1 in
    record {
      cards = g.0;
      size = eqb-true (length p) 1292 a.0;
      version = eqb-true (le16 p 0) 1 b.0;
      matrix = c.1;
      status = leb-true (le16 p 6) 2 d.0;
      linked = h.0;
      pass = h.1;
      clean = i.0;
      sheet = same;
      same = sym (ap (agrees p) same) ∙ j.0;
    }

-- and the other way
pub read_from : (f : Meaning) (p : List ℕ) (M : Model) → Read f p M → read_page f p ≡ Ok M
unfolding read_page
read_from f p M r =
    rw (eq-eqb (length p) 1292 r.size, eq-eqb (le16 p 0) 1 r.version, r.matrix, le-leb (le16 p 6) 2 r.status, r.linked, r.pass, r.clean, r.sheet, r.same)

-- each job of an accepted chain passes its questions
passing_on : (card : ℕ) (r : Result (Unit {0}) JobRefusal) (rest : Result (Unit {0}) ChainFault) → then in_chain (on_record card r) (λ _. rest) ≡ Ok tt → (r ≡ Ok tt) × (rest ≡ Ok tt)
passing_on card (Ok x) rest e = (refl, e)
passing_on card (Err d) rest e = absurd (let z : ◌≡◌ {A = ℕ} 0 1 = cc in omega arith)

pub jobs_passing : (p : List ℕ) (m : ℕ) (cards : List ℕ) → jobs_pass p m cards ≡ Ok tt → (card : ℕ) → member card cards ≡ true → job_answer m (job_in p card) (posted_in p card) ≡ Ok tt
jobs_passing p m [] e card h = absurd (true≢false (sym h))
jobs_passing p m (x ∷ xs) e card h =
    let q = passing_on x (job_answer m (job_in p x) (posted_in p x)) (jobs_pass p m xs) e in
    ⊎_elim
    (λ same. ap (λ k. job_answer m (job_in p k) (posted_in p k)) (eqb-true card x same) ∙ q.0)
    (jobs_passing p m xs q.1 card)
    (or_cases (eqb card x) (member card xs) h)

-- what stands on a card of a book that was read
module _ {X : Type 0} (of : ℕ → X) (none : X) (cards : List ℕ) where
  abbrev pub listed : List X
  listed = map (λ k. cond (member (k + 1) cards) (of (k + 1)) none) (range_with_len 0 32)

  pub listed_long : length listed ≡ 32
  listed_long = length-map-range_with_len (λ k. cond (member (k + 1) cards) (of (k + 1)) none) 0 32

  listed_at : (card : ℕ) → is_card card ≡ true → get_or listed (card - 1) none ≡ cond (member card cards) (of card) none
  listed_at card is =
      let w = card_within card is in
      let back : card - 1 + 1 ≡ card = omega arith in
      get_or-map-range_with_len (λ k. cond (member (k + 1) cards) (of (k + 1)) none) 0 32 (card - 1) (card - 1) none (omega arith) (omega arith) ∙ ap (λ k. cond (member k cards) (of k) none) back

  pub listed_on : (card : ℕ) → is_card card ≡ true → member card cards ≡ true → get_or listed (card - 1) none ≡ of card
  listed_on card is m = listed_at card is ∙ cond-true _ _ _ m

  pub listed_off : (card : ℕ) → is_card card ≡ true → member card cards ≡ false → get_or listed (card - 1) none ≡ none
  listed_off card is m = listed_at card is ∙ cond-false _ _ _ m

module _ (f : Meaning) (p : List ℕ) (M : Model) (r : Read f p M) where
  -- the book of the sheet is the page's
  pub book_is : M.book ≡ page_book p (le16 p 2) r.cards
  book_is =
      sym (ap (λ X. X.book) r.sheet)
      ∙ cond_both (eqb (le16 p 6) 0) (reopened (page_book p (le16 p 2) r.cards)) (settled_book f (page_book p (le16 p 2) r.cards))
      (λ X. X.book ≡ page_book p (le16 p 2) r.cards) (λ _. refl) (λ _. refl)

  pub cards_chained : chained r.cards ≡ true
  cards_chained = (links_linked p r.cards r.linked).0

  pub page_sound : Sound (page_book p (le16 p 2) r.cards)
  unfolding page_book fresh_book
  page_sound =
      let fresh = fresh_sound (le16 p 2) (page_numbers p (le16 p 2)) r.matrix in record {
        sized = fresh.sized;
        long_changeovers = fresh.long_changeovers;
        small = fresh.small;
        triangular = fresh.triangular;
        outside = fresh.outside;
        chained = cards_chained;
        long_jobs = listed_long (job_in p) no_job r.cards;
        long_posted = listed_long (posted_in p) no_window r.cards;
        passing = λ card m.
            let is = member_card card r.cards cards_chained m in
            passes_as (le16 p 2) _ _ _ _ (listed_on (job_in p) no_job r.cards card is m) (listed_on (posted_in p) no_window r.cards card is m)
            (jobs_passing p (le16 p 2) r.cards r.pass card m);
        blank = λ card is m. (listed_off (job_in p) no_job r.cards card is m, listed_off (posted_in p) no_window r.cards card is m);
      }

-- AN ACCEPTED PAGE has a sound book
pub read_sound : (f : Meaning) (p : List ℕ) (M : Model) → read_page f p ≡ Ok M → Sound M.book
read_sound f p M e = let r = read_facts f p M e in subst Sound (sym (book_is f p M r)) (page_sound f p M r)

-- and its sheet is open, or settled with the bound
pub read_behind : (f : Meaning) (p : List ℕ) (M : Model) → read_page f p ≡ Ok M → Behind f M
read_behind f p M e =
    let r = read_facts f p M e in
    let same = sym (book_is f p M r) in
    ⊎_elim
    (λ z. inl (sym r.sheet ∙ (cond-true _ _ _ z ∙ ap reopened same)))
    (λ z. inr (sym r.sheet ∙ (cond-false _ _ _ z ∙ ap (settled_book f) same)))
    (cases_Bool (eqb (le16 p 6) 0))
