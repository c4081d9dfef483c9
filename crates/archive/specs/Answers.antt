-- What is answered about a page on the way to its sheet. Assumes nothing.
use Rattle.std.specs.Prelude.{ℕ, cond, List, [], length, Some, None, Ok, Err, Option, Result, ◌==◌, nat_le}
use Rattle.matrix.specs.Matrix.{matrix_answer}
use Rattle.rules.specs.declared.faults.PageFault.{PageFault}
use Rattle.rules.specs.declared.faults.PageFault.TheVariants.{Size, Version, Status, Stray, Unsettled}
use Rattle.rules.specs.declared.sheet.Status as status
use Rattle.rules.specs.Faults.{in_page, of_matrix}
use Rattle.rules.specs.Models.{Model, reopened, Meaning}
use Rattle.rules.specs.Pages.{status_number, le16, then, page_numbers, page_book, page_sheet, chain_answer, first_stray, agrees}
use Rattle.sheet.specs.declared.sheet.Sheet.{Sheet}
use Rattle.sheet.specs.Shown.{shown}
use Rattle.archive.specs.declared.page.Page.{Page}
use Rattle.archive.specs.Bytes.{bytes_of}

-- Question 16
abbrev pub stray_answer : Option ℕ → Result (Unit {0}) PageFault
stray_answer (Some byte) = Err (Stray byte)
stray_answer None = Ok tt

-- Question 13: the bytes are a page
abbrev pub page_answer : List ℕ → Result (List ℕ) PageFault
page_answer p = cond (length p == 1292) (Ok p) (Err (Size (length p)))

-- Question 14
abbrev pub version_answer : List ℕ → Result (Unit {0}) PageFault
version_answer p = cond (le16 p 0 == 1) (Ok tt) (Err (Version (le16 p 0)))

-- Question 17: the number of a status
abbrev pub status_answer : List ℕ → Result ℕ PageFault
status_answer p = cond (nat_le (le16 p 6) 2) (Ok (le16 p 6)) (Err (Status (le16 p 6)))

-- the bytes of the page that was made
abbrev pub bytes_in : {E : Type 0} → Result Page E → Result (List ℕ) E
bytes_in (Ok page) = Ok (bytes_of page)
bytes_in (Err fault) = Err fault

-- the number of the status that was read
abbrev pub number_in : {E : Type 0} → Result status.Status E → Result ℕ E
number_in (Ok s) = Ok (status_number s)
number_in (Err fault) = Err fault

-- the sheet that was read
abbrev pub sheet_of : {E : Type 0} → Result Sheet E → Result Model E
sheet_of (Ok s) = Ok (shown s)
sheet_of (Err fault) = Err fault

-- Questions 1, 3 and 4: an open sheet with the page's matrix and no jobs
abbrev pub matrix_part : List ℕ → Result Model PageFault
matrix_part p = then of_matrix (matrix_answer (le16 p 2) (page_numbers p (le16 p 2))) (λ _. Ok (reopened (page_book p (le16 p 2) [])))

-- every question but the last: an open sheet with the page's job book
abbrev pub book_part : List ℕ → Result Model PageFault
book_part p =
    then (λ e. e) (page_answer p) (λ _.
    then (λ e. e) (version_answer p) (λ _.
    then (λ e. e) (matrix_part p) (λ M.
    then (λ e. e) (status_answer p) (λ _.
    then in_page (chain_answer p M.book.setups) (λ cards.
    then (λ e. e) (stray_answer (first_stray p M.book.setups cards)) (λ _. Ok (reopened (page_book p M.book.setups cards))))))))

-- Question 18: the sheet by the page's status, where status, rounds and held windows are its own
abbrev pub whole_part : Meaning → List ℕ → Model → Result Model PageFault
whole_part f p M = let N = page_sheet f (le16 p 6) M.book in cond (agrees p N) (Ok N) (Err Unsettled)
