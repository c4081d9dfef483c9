-- The sheet of a page in two parts: its job book, and what is held of it. Assumes nothing.
use Rattle.std.proofs.Common.{◌≡◌, ℕ, Bool, true, false, cond, eqb, leb, List, [], length, Some, None, Ok, Err, Option, Result, sym, refl, ap, ◌∙◌, arith}
use Rattle.std.proofs.lemmas.Bool.{eq-eqb}
use Rattle.matrix.specs.declared.refusals.MatrixRefusal.{MatrixRefusal}
use Rattle.matrix.specs.Matrix.{matrix_answer}
use Rattle.rules.specs.declared.faults.ChainFault.{ChainFault}
use Rattle.rules.specs.declared.faults.PageFault.{PageFault}
use Rattle.rules.specs.declared.faults.PageFault.TheVariants.{Size, Version, Status}
use Rattle.rules.specs.Faults.{in_page, of_matrix}
use Rattle.rules.specs.Models.{Model, reopened, Meaning}
use Rattle.rules.specs.Pages.{le16, then, unless_stray, page_numbers, page_book, chain_answer, first_stray, read_page}
use Rattle.archive.specs.Answers.{page_answer, stray_answer, status_answer, book_part, whole_part}

-- a question that refuses with a fault: what follows is asked where it says "yes"
asks : {X Y Z : Type 0} (x : X) (b : Bool) (e : PageFault) (rest : Result Y PageFault) (more : Y → Result Z PageFault) (whole : Result Z PageFault) → whole ≡ then (λ d. d) rest more → cond b whole (Err e) ≡ then (λ d. d) (then (λ d. d) (cond {A = Result X PageFault} b (Ok x) (Err e)) (λ _. rest)) more
asks x true e rest more whole h = h
asks x false e rest more whole h = refl

module _ (f : Meaning) (p : List ℕ) (m : ℕ) where
  -- the book with the cards of the chain, where no byte is stray
  stray : (cards : List ℕ) (o : Option ℕ) → unless_stray o (whole_part f p (reopened (page_book p m cards))) ≡ then (λ e. e) (then (λ e. e) (stray_answer o) (λ _. Ok (reopened (page_book p m cards)))) (whole_part f p)
  stray cards (Some byte) = refl
  stray cards None = refl

  chain : (r : Result (List ℕ) ChainFault) → then in_page r (λ cards. unless_stray (first_stray p m cards) (whole_part f p (reopened (page_book p m cards)))) ≡ then (λ e. e) (then in_page r (λ cards. then (λ e. e) (stray_answer (first_stray p m cards)) (λ _. Ok (reopened (page_book p m cards))))) (whole_part f p)
  chain (Ok cards) = stray cards (first_stray p m cards)
  chain (Err e) = refl

  -- what follows the matrix
  abbrev after_matrix : ℕ → Result Model PageFault
  after_matrix k =
      then (λ e. e) (status_answer p) (λ _.
      then in_page (chain_answer p k) (λ cards.
      then (λ e. e) (stray_answer (first_stray p k cards)) (λ _. Ok (reopened (page_book p k cards)))))

  matrix : (r : Result (Unit {0}) MatrixRefusal) → (page_book p m []).setups ≡ m → then of_matrix r (λ _. cond (leb (le16 p 6) 2) (then in_page (chain_answer p m) (λ cards. unless_stray (first_stray p m cards) (whole_part f p (reopened (page_book p m cards))))) (Err (Status (le16 p 6)))) ≡ then (λ e. e) (then {X = Model} (λ e. e) (then of_matrix r (λ _. Ok (reopened (page_book p m [])))) (λ M. after_matrix M.book.setups)) (whole_part f p)
  matrix (Ok x) same =
      asks (le16 p 6) (leb (le16 p 6) 2) (Status (le16 p 6)) _ (whole_part f p) _ (chain (chain_answer p m))
      ∙ ap (λ (n : ℕ). then (λ e. e) (after_matrix n) (whole_part f p)) (sym same)
  matrix (Err e) same = refl

-- THE TWO PARTS
pub in_parts : (f : Meaning) (p : List ℕ) → read_page f p ≡ then (λ e. e) (book_part p) (whole_part f p)
unfolding read_page page_book
in_parts f p =
    let m = le16 p 2 in
    asks p (eqb (length p) 1292) (Size (length p)) _ (whole_part f p) _
    (asks tt (eqb (le16 p 0) 1) (Version (le16 p 0)) _ (whole_part f p) _ (matrix f p m (matrix_answer m (page_numbers p m)) refl))

-- the bytes that were taken are those of the page
pub taken : (p q : List ℕ) → Ok q ≡ page_answer p → q ≡ p
taken p q is = elim (eqb (length p) 1292) as (λ b. ◌≡◌ {A = Result (List ℕ) PageFault} (Ok q) (cond b (Ok p) (Err (Size (length p)))) → q ≡ p) [ true ↦ λ e. cc | false ↦ λ e. absurd (let z : ◌≡◌ {A = ℕ} 0 1 = cc in omega arith) ] is

pub sized : (q : List ℕ) → length q ≡ 1292 → page_answer q ≡ Ok q
sized q long = rw (eq-eqb (length q) 1292 long)

-- the number of the status that was read is the page's
pub status_is : (q : List ℕ) (n : ℕ) → Ok n ≡ status_answer q → n ≡ le16 q 6
status_is q n is = elim (leb (le16 q 6) 2) as (λ b. ◌≡◌ {A = Result ℕ PageFault} (Ok n) (cond b (Ok (le16 q 6)) (Err (Status (le16 q 6)))) → n ≡ le16 q 6) [ true ↦ λ e. cc | false ↦ λ e. absurd (let z : ◌≡◌ {A = ℕ} 0 1 = cc in omega arith) ] is

-- a question that refuses, and one that goes on
pub fails : {X Y E F : Type 0} (raise : E → F) {r : Result X E} (rest : X → Result Y F) {e : E} → r ≡ Err e → then raise r rest ≡ Err (raise e)
fails raise rest is = ap (λ r. then raise r rest) is

pub goes_on : {X Y E F : Type 0} (raise : E → F) {r : Result X E} (rest : X → Result Y F) {x : X} {answer : Result Y F} → r ≡ Ok x → rest x ≡ answer → then raise r rest ≡ answer
goes_on raise rest is more = ap (λ r. then raise r rest) is ∙ more

module _ (f : Meaning) (p q : List ℕ) (is : q ≡ p) where
  -- refused before the sheet is settled
  pub refused : (e : PageFault) → book_part q ≡ Err e → Err e ≡ read_page f p
  refused e book = sym (ap (λ r. then (λ d. d) r (whole_part f q)) book) ∙ sym (in_parts f q) ∙ ap (read_page f) is

  -- or answered by the last question
  pub answered : (M : Model) (answer : Result Model PageFault) → book_part q ≡ Ok M → whole_part f q M ≡ answer → answer ≡ read_page f p
  answered M answer book whole = sym whole ∙ sym (ap (λ r. then (λ d. d) r (whole_part f q)) book) ∙ sym (in_parts f q) ∙ ap (read_page f) is
