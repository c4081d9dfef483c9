-- What is wrong with a page: number, card and byte of each fault. Assumes nothing.
use Rattle.std.specs.Prelude.{ℕ, ◌+◌, ◌-◌, ◌*◌, ◌/◌, cond, ◌==◌, nat_lt}
use Rattle.matrix.specs.declared.refusals.MatrixRefusal.{MatrixRefusal}
use Rattle.matrix.specs.declared.refusals.MatrixRefusal.TheVariants.{Setups, Count, TooGreat, Triangle}
use Rattle.matrix.specs.Matrix.{matrix_number}
use Rattle.rules.specs.declared.refusals.JobRefusal.{JobRefusal}
use Rattle.rules.specs.declared.refusals.JobRefusal.TheVariants.{Setup, Duration, LateEnd, Room}
use Rattle.rules.specs.declared.faults.JobFault.{JobFault}
use Rattle.rules.specs.declared.faults.ChainFault.{ChainFault}
use Rattle.rules.specs.declared.faults.ChainFault.TheVariants.{Link, Job}
use Rattle.rules.specs.declared.faults.PageFault.{PageFault}
use Rattle.rules.specs.declared.faults.PageFault.TheVariants.{Size, Version, Matrix, Status, Chain, Stray, Unsettled}
use Rattle.rules.specs.declared.sheet.UnknownStatus.{UnknownStatus}
use Rattle.rules.specs.Refusals.{job_number}

-- a job's fault as the chain's, and the chain's as the page's
abbrev pub in_chain : JobFault → ChainFault
in_chain fault = Job fault

abbrev pub in_page : ChainFault → PageFault
in_page fault = Chain fault

-- a refused matrix as the page's
abbrev pub of_matrix : MatrixRefusal → PageFault
of_matrix refusal = Matrix refusal

-- a status that there is not, as the page's
abbrev pub of_status : UnknownStatus → PageFault
of_status unknown = Status unknown.0

-- where the record of a card begins
abbrev pub record_start : ℕ → ℕ
record_start card = 524 + 24 * (card - 1)

-- where M(a, b) begins
abbrev pub changeover_start : ℕ → ℕ → ℕ
changeover_start a b = 12 + 2 * (16 * (a - 1) + (b - 1))

-- where, in a record, the field begins that a question is about; of 11 it is the posted early end
abbrev pub field_offset : JobRefusal → ℕ
field_offset (Setup setup) = 2
field_offset (Duration minutes) = 4
field_offset (LateEnd late) = 12
field_offset (Room window) = 8

-- of the matrix: the setups, the first M too great, and M(a, b) of the first triple a, b, c
abbrev pub matrix_byte : MatrixRefusal → ℕ
matrix_byte (Setups m) = 2
matrix_byte (Count n) = 2
matrix_byte (TooGreat e) = changeover_start e.from e.to
matrix_byte (Triangle t) = changeover_start t.from t.to

-- of the chain: question 15 or the job's; the card that the link stands on, 0 for the first link; the link or the job's field
abbrev pub chain_number : ChainFault → ℕ
chain_number (Link card link) = 15
chain_number (Job fault) = job_number fault.refusal

abbrev pub chain_card : ChainFault → ℕ
chain_card (Link card link) = card
chain_card (Job fault) = fault.card

abbrev pub chain_byte : ChainFault → ℕ
chain_byte (Link card link) = cond (card == 0) 4 (record_start card)
chain_byte (Job fault) = record_start fault.card + field_offset fault.refusal

-- THE NUMBER of the question that has the answer "no"
abbrev pub fault_number : PageFault → ℕ
fault_number (Size n) = 13
fault_number (Version v) = 14
fault_number (Matrix refusal) = matrix_number refusal
fault_number (Status s) = 17
fault_number (Chain fault) = chain_number fault
fault_number (Stray byte) = 16
fault_number Unsettled = 18

-- THE CARD in whose record the fault is, 0 outside a record
abbrev pub fault_card : PageFault → ℕ
fault_card (Size n) = 0
fault_card (Version v) = 0
fault_card (Matrix refusal) = 0
fault_card (Status s) = 0
fault_card (Chain fault) = chain_card fault
fault_card (Stray byte) = cond (nat_lt byte 524) 0 ((byte - 524) / 24 + 1)
fault_card Unsettled = 0

-- THE BYTE at which the field begins
abbrev pub fault_byte : PageFault → ℕ
fault_byte (Size n) = 0
fault_byte (Version v) = 0
fault_byte (Matrix refusal) = matrix_byte refusal
fault_byte (Status s) = 6
fault_byte (Chain fault) = chain_byte fault
fault_byte (Stray byte) = byte
fault_byte Unsettled = 6
