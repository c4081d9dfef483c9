-- All that was done to a sheet since it was made, and what is promised after it. Assumes nothing.
use Rattle.std.specs.Prelude.{◌≡◌, ℕ, ◌+◌, ◌-◌, ◌≤◌, true, List, [], ◌∷◌, Ok, ◌≢◌}
use Rattle.matrix.specs.Matrix.{matrix_answer}
use Rattle.rules.specs.declared.sheet.Job.{Job}
use Rattle.rules.specs.declared.sheet.Window.{Window}
use Rattle.rules.specs.declared.sheet.Status.TheVariants.{Open, Settled, Overloaded}
use Rattle.rules.specs.Cards.{member}
use Rattle.rules.specs.Books.{Book, job_on, posted_on, rising, PlanFits}
use Rattle.rules.specs.Models.{Model, held_on, fresh_book, reopened, post_answer, narrow_answer, card_answer, with_job, without_job, with_window, left_by, Meaning, Law, settled_book}
use Rattle.rules.specs.Pages.{read_page, loaded}

-- the calls that can change a sheet; a bound is there by what it means, whatever its kind
pub data Call : Type 0 where
  posts : ℕ → Job → Window → Call
  narrows : ℕ → Window → Call
  withdraws : ℕ → Call
  settles : Meaning → Call
  loads : List ℕ → Meaning → Call

-- how a sheet was made, and the calls since, the last one last
infixl 20 ◌▸◌
pub data History : Type 0 where
  made : ℕ → List ℕ → History
  ◌▸◌ : History → Call → History

-- what a call leaves of a job book, by its questions alone
abbrev pub asked : Book → Call → Book
asked B (posts card job w) = left_by (post_answer B card job w) (with_job B card job w) B
asked B (narrows card w) = left_by (narrow_answer B card w) (with_window B card w) B
asked B (withdraws card) = left_by (card_answer B card) (without_job B card) B
asked B (settles f) = B
asked B (loads page f) = loaded (read_page f page) (λ M. M.book) B

-- what a call leaves of a sheet: an accepted one on the book opens it again, settle settles it, an accepted load replaces it,
-- and a refused one changes nothing
abbrev pub step : Model → Call → Model
step M (posts card job w) = left_by (post_answer M.book card job w) (reopened (with_job M.book card job w)) M
step M (narrows card w) = left_by (narrow_answer M.book card w) (reopened (with_window M.book card w)) M
step M (withdraws card) = left_by (card_answer M.book card) (reopened (without_job M.book card)) M
step M (settles f) = settled_book f M.book
step M (loads page f) = loaded (read_page f page) (λ M'. M') M

-- the job book after a history
abbrev pub book_after : History → Book
book_after (made m numbers) = fresh_book m numbers
book_after (h ▸ c) = asked (book_after h) c

-- the sheet after a history
abbrev pub sheet_after : History → Model
sheet_after (made m numbers) = reopened (fresh_book m numbers)
sheet_after (h ▸ c) = step (sheet_after h) c

abbrev pub LawfulCall : Call → Type 0
LawfulCall (posts card job w) = Unit {0}
LawfulCall (narrows card w) = Unit {0}
LawfulCall (withdraws card) = Unit {0}
LawfulCall (settles f) = Law f
LawfulCall (loads page f) = Law f

-- make accepted the matrix, and every bound keeps the law: it never overstates
abbrev pub LawfulHistory : History → Type 0
LawfulHistory (made m numbers) = matrix_answer m numbers ≡ Ok tt
LawfulHistory (h ▸ c) = LawfulHistory h × LawfulCall c

-- the minutes of a window
abbrev pub minutes_of : Window → ℕ
minutes_of w = w.late - w.early

-- the minutes cut from the windows of some cards
abbrev pub cut_from : Book → Model → List ℕ → ℕ
cut_from B M [] = 0
cut_from B M (card ∷ cards) = (minutes_of (posted_on B card) - minutes_of (held_on M card)) + cut_from B M cards

abbrev pub minutes_cut : Book → Model → ℕ
minutes_cut B M = cut_from B M (rising B)

-- THE PROMISES of a sheet with a job book
pub record Promises (B : Book) (M : Model) : Type 0 where
  -- the sheet has this book
  pub same_book : M.book ≡ B
  -- overloaded means that no plan fits
  pub no_plan_when_overloaded : M.status ≡ Overloaded → (start : ℕ → ℕ) → PlanFits B start → ⊥
  -- in any status, every plan that fits starts each job at or after its held early end and finishes it by its held late end
  pub every_plan_inside_held : (start : ℕ → ℕ) → PlanFits B start → (card : ℕ) → member card B.chain ≡ true → ((held_on M card).early ≤ start card) × (start card + (job_on B card).duration ≤ (held_on M card).late)
  -- settled with each held window exactly as long as its job means that these starts fit
  pub single_starts_fit : M.status ≡ Settled → ((card : ℕ) → member card B.chain ≡ true → (held_on M card).late ≡ (held_on M card).early + (job_on B card).duration) → PlanFits B (λ card. (held_on M card).early)
  -- settled or overloaded, at most one round more than the minutes cut
  pub rounds_within_minutes_cut : (M.status ≢ Open) → M.rounds ≤ minutes_cut B M + 1

-- THE THEOREM: the promises hold after every lawful history
abbrev pub PromisesKept : Type 0
PromisesKept = (h : History) → LawfulHistory h → Promises (book_after h) (sheet_after h)

-- h is a lawful history that leads to the sheet
pub record Leads (h : History) (M : Model) : Type 0 where
  pub lawful : LawfulHistory h
  pub to : sheet_after h ≡ M

-- h is one, and its promises hold of the sheet
pub record Kept (h : History) (M : Model) : Type 0 where
  pub leads : Leads h M
  pub promises : Promises (book_after h) M

-- whatever lawful history leads to M, with the call c it leads to M', and its promises hold there
abbrev pub Stays : Model → Call → Model → Type 0
Stays M c M' = (h : History) → Leads h M → Kept (h ▸ c) M'
