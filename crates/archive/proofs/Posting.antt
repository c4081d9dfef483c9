-- The job book of a page, posted job by job. Assumes nothing.
use Rattle.std.proofs.Common.{◌≡◌, ℕ, zero, suc, ◌+◌, ◌-◌, ◌<◌, Bool, true, false, cond, ◌||◌, eqb, List, [], ◌∷◌, ◌++◌, map, length, get_or, take, set, Ok, Err, Result, sym, refl, ap, ◌∙◌, ⊎_elim, arith, length-set}
use Rattle.std.specs.List.{range_with_len}
use Rattle.std.proofs.lemmas.Bool.{eq-eqb, ne_eqb, or_right, both_ways, cond-true, cases_eq}
use Rattle.std.proofs.lemmas.List.{get_or-set_same, get_or-set_other, take_more}
use Rattle.std.proofs.lemmas.List.FromFn.{fill_by_all, length-map-range_with_len, get_or-map-range_with_len}
use Rattle.rules.specs.declared.sheet.Job.{Job}
use Rattle.rules.specs.declared.sheet.Window.{Window}
use Rattle.rules.specs.Cards.{member, is_card, chained}
use Rattle.rules.specs.Books.{no_job, no_window, laid_out}
use Rattle.rules.specs.Models.{Model, fresh_book, reopened, make_leaves, post_answer, with_job}
use Rattle.rules.specs.Pages.{le16, then, page_numbers, page_book, job_in, posted_in, jobs_pass}
use Rattle.rules.specs.Histories.{posts, step}
use Rattle.rules.proofs.Chains.{card_within, member_push, parts}
use Rattle.rules.proofs.PageReads.{jobs_passing}
use Rattle.matrix.specs.Matrix.{matrix_answer}
use Rattle.rules.specs.declared.faults.PageFault.{PageFault}
use Rattle.rules.specs.Faults.{of_matrix}
use Rattle.archive.specs.Answers.{matrix_part}

-- a sheet that was just made has the book of the page with no jobs
pub fresh_page : (p : List ℕ) (m : ℕ) → fresh_book m (page_numbers p m) ≡ page_book p m []
unfolding fresh_book page_book
fresh_page p m = refl

-- a matrix that make accepts is the first part of the page's sheet
pub matrix_made : (p : List ℕ) (m : ℕ) (numbers : List ℕ) (M N : Model) → m ≡ le16 p 2 → numbers ≡ page_numbers p m → matrix_answer m numbers ≡ Ok tt → M ≡ make_leaves m numbers N → ◌≡◌ {A = Result Model PageFault} (Ok M) (matrix_part p)
matrix_made p m numbers M N m_is numbers_are accepted made =
    let accepted' : matrix_answer m (page_numbers p m) ≡ Ok tt = sym (ap (matrix_answer m) numbers_are) ∙ accepted in
    let left : make_leaves m numbers N ≡ reopened (fresh_book m numbers) = rw accepted in
    let sheet : M ≡ reopened (page_book p m []) = made ∙ left ∙ ap (λ (xs : List ℕ). reopened (fresh_book m xs)) numbers_are ∙ ap reopened (fresh_page p m) in
    let whole : ◌≡◌ {A = Result Model PageFault} (Ok M) (then of_matrix (matrix_answer m (page_numbers p m)) (λ _. Ok (reopened (page_book p m [])))) = rw accepted' (ap (λ (x : Model). let r : Result Model PageFault = Ok x in r) sheet) in
    whole ∙ ap (λ (k : ℕ). then of_matrix (matrix_answer k (page_numbers p k)) (λ _. Ok (reopened (page_book p k [])))) m_is

-- each of a chain is a card
card_of : (ks : List ℕ) (i : ℕ) → chained ks ≡ true → i < length ks → is_card (get_or ks i 0) ≡ true
card_of [] i good h = absurd (omega arith)
card_of (k ∷ ks) zero good h = (parts k ks good).card
card_of (k ∷ ks) (suc i) good h = card_of ks i (parts k ks good).rest (omega arith)

-- the card at a place of a chain is in it, and not before
member_at : (ks : List ℕ) (i : ℕ) → i < length ks → member (get_or ks i 0) ks ≡ true
member_at [] i h = absurd (omega arith)
member_at (k ∷ ks) zero h = rw (eq-eqb k k refl)
member_at (k ∷ ks) (suc i) h = or_right (eqb (get_or ks i 0) k) (member (get_or ks i 0) ks) (member_at ks i (omega arith))

free_at : (ks : List ℕ) (i : ℕ) → chained ks ≡ true → i < length ks → member (get_or ks i 0) (take i ks) ≡ false
free_at [] i good h = absurd (omega arith)
free_at (k ∷ ks) zero good h = refl
free_at (k ∷ ks) (suc i) good h =
    let q = parts k ks good in
    let there = member_at ks i (omega arith) in
    let ne : get_or ks i 0 ≡ k → ⊥ = λ e. both_ways _ q.alone (sym (ap (λ (x : ℕ). member x ks) e) ∙ there) in
    rw (ne_eqb (get_or ks i 0) k ne) (free_at ks i q.rest (omega arith))

or_false : (b : Bool) → (b || false) ≡ b
or_false true = refl
or_false false = refl

-- what stands by card, with one card more
listed_more : {X : Type 0} (of : ℕ → X) (none : X) (ks : List ℕ) (card : ℕ) → is_card card ≡ true → set (map (λ k. cond (member (k + 1) ks) (of (k + 1)) none) (range_with_len 0 32)) (card - 1) (of card) ≡ map (λ k. cond (member (k + 1) (ks ++ card ∷ [])) (of (k + 1)) none) (range_with_len 0 32)
listed_more {X} of none ks card is =
    let f : ℕ → X = λ k. cond (member (k + 1) ks) (of (k + 1)) none in
    let g : ℕ → X = λ k. cond (member (k + 1) (ks ++ card ∷ [])) (of (k + 1)) none in
    let range = card_within card is in
    let long = length-map-range_with_len f 0 32 in
    fill_by_all g (set (map f (range_with_len 0 32)) (card - 1) (of card)) 32 none (simp length-set long)
    (λ k h.
    ⊎_elim
    (λ e.
    let at : k + 1 ≡ card = omega (arith, range.0) in
    let there : member (k + 1) (ks ++ card ∷ []) ≡ true = member_push (k + 1) card ks ∙ or_right (member (k + 1) ks) (eqb (k + 1) card) (eq-eqb (k + 1) card at) in
    ap (λ (n : ℕ). get_or (set (map f (range_with_len 0 32)) (card - 1) (of card)) n none) e
    ∙ get_or-set_same (map f (range_with_len 0 32)) (card - 1) (of card) none (omega arith)
    ∙ sym (cond-true _ _ _ there ∙ ap of at))
    (λ ne.
    let apart : k + 1 ≡ card → ⊥ = λ e. ne (omega arith) in
    let same : member (k + 1) (ks ++ card ∷ []) ≡ member (k + 1) ks = member_push (k + 1) card ks ∙ rw (ne_eqb (k + 1) card apart) (or_false (member (k + 1) ks)) in
    get_or-set_other (map f (range_with_len 0 32)) (card - 1) k (of card) none ne
    ∙ get_or-map-range_with_len f 0 32 k k none h (omega arith)
    ∙ ap (λ (b : Bool). cond b (of (k + 1)) none) (sym same))
    (cases_eq k (card - 1)))

module _ (p : List ℕ) (m : ℕ) (ks : List ℕ) (i : ℕ) (good : chained ks ≡ true) (pass : jobs_pass p m ks ≡ Ok tt) (h : i < length ks) where
  abbrev card : ℕ
  card = get_or ks i 0

  -- the next job of the chain is accepted
  granted : post_answer (page_book p m (take i ks)) card (job_in p card) (posted_in p card) ≡ Ok tt
  unfolding page_book
  granted = rw (card_of ks i good h, free_at ks i good h, jobs_passing p m ks pass card (member_at ks i h))

  -- and leaves the book with it
  grown : with_job (page_book p m (take i ks)) card (job_in p card) (posted_in p card) ≡ page_book p m (take (i + 1) ks)
  unfolding page_book
  grown =
      let is = card_of ks i good h in
      let longer : take i ks ++ card ∷ [] ≡ take (i + 1) ks = sym (take_more ks i 0 h) in
      (λ r. record {
        setups = m;
        changeovers = laid_out m (page_numbers p m);
        chain = take i ks ++ card ∷ [];
        jobs = listed_more (job_in p) no_job (take i ks) card is r;
        posted = listed_more (posted_in p) no_window (take i ks) card is r;
      })
      ∙ ap (page_book p m) longer

  pub posted_more : (M N : Model) (job : Job) (w : Window) (k : ℕ) → k ≡ card → job ≡ job_in p k → w ≡ posted_in p k → M ≡ reopened (page_book p m (take i ks)) → N ≡ step M (posts k job w) → N ≡ reopened (page_book p m (take (i + 1) ks))
  posted_more M N job w k k_is job_is w_is before after =
      after
      ∙ (λ r. step (before r) (posts (k_is r) ((job_is ∙ ap (job_in p) k_is) r) ((w_is ∙ ap (posted_in p) k_is) r)))
      ∙ rw granted (ap reopened grown)

-- the sheet that the matrix of a page gives
pub matrix_sheet : (p : List ℕ) (M : Model) (m : ℕ) → m ≡ M.book.setups → ◌≡◌ {A = Result Model PageFault} (Ok M) (matrix_part p) → M ≡ reopened (page_book p m [])
unfolding page_book
matrix_sheet p M m m_is found =
    let k = le16 p 2 in
    elim (matrix_answer k (page_numbers p k)) as (λ r. ◌≡◌ {A = Result Model PageFault} (Ok M) (then of_matrix r (λ _. Ok (reopened (page_book p k [])))) → M ≡ reopened (page_book p m [])) [
      | Ok x ↦ λ e.
          let is : M ≡ reopened (page_book p k []) = cc in
          let setups_are : m ≡ k = m_is ∙ ap (λ (N : Model). N.book.setups) is in
          is ∙ ap (λ (n : ℕ). reopened (page_book p n [])) (sym setups_are)
      | Err y ↦ λ e. absurd (let z : ◌≡◌ {A = ℕ} 0 1 = cc in omega arith)
    ] found
