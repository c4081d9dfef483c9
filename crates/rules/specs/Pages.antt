-- Archive pages: the bytes of a sheet, and the sheet of any bytes. Assumes nothing.
use Rattle.std.specs.Prelude.{◌≡◌, ℕ, zero, suc, ◌+◌, ◌-◌, ◌*◌, ◌/◌, ◌%◌, ◌<◌, Bool, true, cond, not, ◌&&◌, ◌⊎◌, List, [], ◌∷◌, ◌++◌, map, length, Some, None, Ok, Err, Option, Result, ◌==◌, nat_le, nat_lt, slice_index}
use Rattle.std.specs.List.{range_with_len}
use Rattle.matrix.specs.Matrix.{matrix_answer}
use Rattle.rules.specs.declared.refusals.JobRefusal.{JobRefusal}
use Rattle.rules.specs.declared.faults.JobFault.{JobFault}
use Rattle.rules.specs.declared.faults.ChainFault.{ChainFault}
use Rattle.rules.specs.declared.faults.ChainFault.TheVariants.{Link}
use Rattle.rules.specs.declared.faults.PageFault.{PageFault}
use Rattle.rules.specs.declared.faults.PageFault.TheVariants.{Size, Version, Matrix, Status, Stray, Unsettled}
use Rattle.rules.specs.declared.sheet.Job.{Job}
use Rattle.rules.specs.declared.sheet.Window.{Window}
use Rattle.rules.specs.declared.sheet.Status as status
use Rattle.rules.specs.declared.sheet.UnknownStatus.{UnknownStatus}
use Rattle.rules.specs.declared.sheet.Status.TheVariants.{Open, Settled, Overloaded}
use Rattle.rules.specs.Faults.{in_chain, in_page, record_start}
use Rattle.rules.specs.Cards.{member, is_card}
use Rattle.rules.specs.Places.{first_such}
use Rattle.rules.specs.Books.{Book, no_job, no_window, job_on, posted_on, laid_out}
use Rattle.rules.specs.Models.{Model, held_on, reopened, job_answer, Meaning, Law, settled_book}

-- WRITING

-- a number as bytes, little-endian
abbrev pub bytes16 : ℕ → List ℕ
bytes16 n = n % 256 ∷ n / 256 % 256 ∷ []

abbrev pub bytes32 : ℕ → List ℕ
bytes32 n = n % 256 ∷ n / 256 % 256 ∷ n / 65536 % 256 ∷ n / 16777216 % 256 ∷ []

-- the number of a status
abbrev pub status_number : status.Status → ℕ
status_number Open = 0
status_number Settled = 1
status_number Overloaded = 2

-- the status that has a number, where there is one
abbrev pub Numbered : ℕ → Result status.Status UnknownStatus → Type 0
Numbered n (Ok s) = status_number s ≡ n
Numbered n (Err unknown) = (unknown.0 ≡ n) × (2 < n)

-- the first card of a chain, 0 where there is none
abbrev pub first_of : List ℕ → ℕ
first_of [] = 0
first_of (x ∷ xs) = x

-- the card that follows another in a chain, 0 where none does
abbrev pub next_in : List ℕ → ℕ → ℕ
next_in [] card = 0
next_in (x ∷ xs) card = cond (x == card) (first_of xs) (next_in xs card)

-- parts 0 to n - 1, one after another
unfoldable pub joined : (ℕ → List ℕ) → ℕ → List ℕ
joined part zero = []
joined part (suc k) = joined part k ++ part k

-- bytes 0 to 11: version, setups, first card, status, rounds
abbrev pub head_bytes : Model → List ℕ
head_bytes M = bytes16 1 ++ (bytes16 M.book.setups ++ (bytes16 (first_of M.book.chain) ++ (bytes16 (status_number M.status) ++ bytes32 M.rounds)))

-- the 24 bytes of a card: next card, setup, duration, posted early and late end, held early and late end
abbrev pub record_bytes : Model → ℕ → List ℕ
record_bytes M card =
    bytes16 (next_in M.book.chain card)
    ++ (bytes16 (job_on M.book card).setup
    ++ (bytes32 (job_on M.book card).duration
    ++ (bytes32 (posted_on M.book card).early
    ++ (bytes32 (posted_on M.book card).late
    ++ (bytes32 (held_on M card).early
    ++ bytes32 (held_on M card).late)))))

-- THE PAGE of a sheet: 1,292 bytes
unfoldable pub page_of : Model → List ℕ
page_of M = head_bytes M ++ (joined (λ k. bytes16 (slice_index M.book.changeovers k)) 256 ++ joined (λ k. record_bytes M (k + 1)) 32)

-- READING

-- the number that begins at a byte, of 2 and of 4 bytes
abbrev pub le16 : List ℕ → ℕ → ℕ
le16 p k = slice_index p k + 256 * slice_index p (k + 1)

abbrev pub le32 : List ℕ → ℕ → ℕ
le32 p k = slice_index p k + 256 * slice_index p (k + 1) + 65536 * slice_index p (k + 2) + 16777216 * slice_index p (k + 3)

-- the m × m changeovers of a page, row by row
unfoldable pub page_numbers : List ℕ → ℕ → List ℕ
page_numbers p m = map (λ i. le16 p (12 + 2 * (16 * (i / m) + i % m))) (range_with_len 0 (m * m))

-- the record of a card
abbrev pub job_in : List ℕ → ℕ → Job
job_in p card = record { setup = le16 p (record_start card + 2); duration = le32 p (record_start card + 4) }

abbrev pub posted_in : List ℕ → ℕ → Window
posted_in p card = record { early = le32 p (record_start card + 8); late = le32 p (record_start card + 12) }

abbrev pub held_in : List ℕ → ℕ → Window
held_in p card = record { early = le32 p (record_start card + 16); late = le32 p (record_start card + 20) }

-- Question 15, from a link on, with the cards met so far: is each link 0 to 32, and no card met twice? 33 links are enough
abbrev pub links_from : List ℕ → ℕ → List ℕ → ℕ → ℕ → Result (List ℕ) ChainFault
links_from p zero met card link = Ok met
links_from p (suc n) met card link =
    cond (link == 0) (Ok met)
    (cond (is_card link && not (member link met)) (links_from p n (met ++ link ∷ []) link (le16 p (record_start link))) (Err (Link card link)))

unfoldable pub links : List ℕ → Result (List ℕ) ChainFault
links p = links_from p 33 [] 0 (le16 p 4)

-- a job's refusal, on its card
abbrev pub on_record : ℕ → Result (Unit {0}) JobRefusal → Result (Unit {0}) JobFault
on_record card (Ok x) = Ok x
on_record card (Err refusal) = Err (record { card = card; refusal = refusal })

-- go on with what was found, or pass the fault up
abbrev pub then : {X Y E F : Type 0} → (E → F) → Result X E → (X → Result Y F) → Result Y F
then raise (Ok x) rest = rest x
then raise (Err e) rest = Err (raise e)

-- Questions 8 to 11 for each job, in chain order
abbrev pub jobs_pass : List ℕ → ℕ → List ℕ → Result (Unit {0}) ChainFault
jobs_pass p m [] = Ok tt
jobs_pass p m (card ∷ cards) = then in_chain (on_record card (job_answer m (job_in p card) (posted_in p card))) (λ _. jobs_pass p m cards)

-- the chain of a page with m setups
abbrev pub chain_answer : List ℕ → ℕ → Result (List ℕ) ChainFault
chain_answer p m = then (λ e. e) (links p) (λ cards. then (λ e. e) (jobs_pass p m cards) (λ _. Ok cards))

-- a byte belongs to something: to the head, to a changeover between two of m setups, or to the record of a card of the chain
abbrev pub belongs : ℕ → List ℕ → ℕ → Bool
belongs m cards byte =
    cond (nat_lt byte 12) true
    (cond (nat_lt byte 524)
    (let k = (byte - 12) / 2 in nat_lt (k / 16) m && nat_lt (k % 16) m)
    (member ((byte - 524) / 24 + 1) cards))

-- Question 16: the first byte that belongs to nothing and is not zero
unfoldable pub first_stray : List ℕ → ℕ → List ℕ → Option ℕ
first_stray p m cards = first_such (λ byte. not (belongs m cards byte) && not (slice_index p byte == 0)) 1292

-- the job book of a page
unfoldable pub page_book : List ℕ → ℕ → List ℕ → Book
page_book p m cards = record {
  setups = m;
  changeovers = laid_out m (page_numbers p m);
  chain = cards;
  jobs = map (λ k. cond (member (k + 1) cards) (job_in p (k + 1)) no_job) (range_with_len 0 32);
  posted = map (λ k. cond (member (k + 1) cards) (posted_in p (k + 1)) no_window) (range_with_len 0 32);
}

-- the sheet that a page with this book has to be, by its status: open, or settled with a bound
abbrev pub page_sheet : Meaning → ℕ → Book → Model
page_sheet f code B = cond (code == 0) (reopened B) (settled_book f B)

-- each card of a list holds on the page what it holds on the sheet
abbrev pub same_held : List ℕ → Model → List ℕ → Bool
same_held p M [] = true
same_held p M (card ∷ cards) =
    ((held_in p card).early == (held_on M card).early && (held_in p card).late == (held_on M card).late) && same_held p M cards

-- Question 18: status, rounds and held windows of the page are the sheet's
abbrev pub agrees : List ℕ → Model → Bool
agrees p M = le16 p 6 == status_number M.status && (le32 p 8 == M.rounds && same_held p M M.book.chain)

-- refused with what was found, or else answered by r
abbrev pub unless_stray : {X : Type 0} → Option ℕ → Result X PageFault → Result X PageFault
unless_stray (Some byte) r = Err (Stray byte)
unless_stray None r = r

-- THE SHEET OF A PAGE, with a bound, for every list of bytes: the questions in their order, the first "no" refuses
unfoldable pub read_page : Meaning → List ℕ → Result Model PageFault
read_page f p =
    cond (length p == 1292)
    (cond (le16 p 0 == 1)
    (then Matrix (matrix_answer (le16 p 2) (page_numbers p (le16 p 2))) (λ _.
    cond (nat_le (le16 p 6) 2)
    (then in_page (chain_answer p (le16 p 2)) (λ cards.
    unless_stray (first_stray p (le16 p 2) cards)
    (let M = page_sheet f (le16 p 6) (page_book p (le16 p 2) cards) in cond (agrees p M) (Ok M) (Err Unsettled))))
    (Err (Status (le16 p 6)))))
    (Err (Version (le16 p 0))))
    (Err (Size (length p)))

-- what load answers, and what it leaves of a sheet: the page's, or where it is refused what it was
abbrev pub load_answer : Meaning → List ℕ → Result (Unit {0}) PageFault
load_answer f p = elim (read_page f p) [ Ok M ↦ Ok tt | Err fault ↦ Err fault ]

abbrev pub loaded : {X : Type 0} → Result Model PageFault → (Model → X) → X → X
loaded (Ok M) new old = new M
loaded (Err fault) new old = old

-- what save answers of a page that is lent to it, and what it leaves of it
abbrev pub save_answer : List ℕ → Result (Unit {0}) PageFault
save_answer p = cond (length p == 1292) (Ok tt) (Err (Size (length p)))

abbrev pub saved : Model → List ℕ → List ℕ
saved M p = cond (length p == 1292) (page_of M) p

-- the numbers of a bound are behind the held windows of a sheet: it is open, or was settled with them
abbrev pub Behind : Meaning → Model → Type 0
Behind f M = (M ≡ reopened M.book) ⊎ (M ≡ settled_book f M.book)

-- each is a byte
abbrev pub Bytes : List ℕ → Type 0
Bytes p = (k : ℕ) → slice_index p k < 256

-- A SAVED PAGE LOADS AS THE SAME SHEET, with any bound whose numbers are behind its held windows
abbrev pub LoadsSame : Model → Type 0
LoadsSame M = (f : Meaning) → Law f → Behind f M → read_page f (page_of M) ≡ Ok M

-- A LOADED PAGE SAVES AS THE SAME BYTES
abbrev pub SavesSame : Meaning → List ℕ → Type 0
SavesSame f p = (M : Model) → read_page f p ≡ Ok M → page_of M ≡ p
