-- What is printed of refusals, faults, windows and settlements. Assumes nothing.
use Rattle.std.specs.Prelude.{ℕ, List, ◌∷◌, ◌++◌, Some, None, codes}
use Rattle.std.specs.Fmt.{decimal}
use Rattle.rules.specs.declared.refusals.JobRefusal.{JobRefusal}
use Rattle.rules.specs.declared.refusals.JobRefusal.TheVariants.{Setup, Duration, LateEnd, Room}
use Rattle.rules.specs.declared.refusals.CardRefusal.{CardRefusal}
use Rattle.rules.specs.declared.refusals.CardRefusal.TheVariants.{Card, Taken, Absent, Outside, Job}
use Rattle.rules.specs.declared.outcome.Cause.{Cause}
use Rattle.rules.specs.declared.faults.PageFault.{PageFault}
use Rattle.rules.specs.declared.sheet.Window.{Window}
use Rattle.rules.specs.declared.sheet.Status.{Status}
use Rattle.rules.specs.declared.sheet.Status.TheVariants.{Open, Settled, Overloaded}
use Rattle.rules.specs.declared.sheet.View.{View}
use Rattle.rules.specs.declared.sheet.Settlement.{Settlement}
use Rattle.rules.specs.Causes.{kind_number, side_number, first_job, second_job}
use Rattle.rules.specs.Faults.{fault_number, fault_card, fault_byte}

-- a number, a space, and what follows
abbrev pub number_then : ℕ → List ℕ → List ℕ
number_then n rest = decimal n ++ 32 ∷ rest

-- of a job: the number of the question, its values, and the reason
abbrev pub job_text : JobRefusal → List ℕ
job_text (Setup setup) = number_then 8 (number_then setup (codes "the matrix has no setup " ++ decimal setup))
job_text (Duration minutes) = number_then 9 (number_then minutes (codes "a job takes 1 to 100000 minutes"))
job_text (LateEnd late) = number_then 10 (number_then late (codes "a window ends by minute 1000000"))
job_text (Room w) = number_then 11 (number_then w.early (number_then w.late (codes "from " ++ number_then w.early (codes "to " ++ number_then w.late (codes "there is no room for the job")))))

-- of a call that names a card
abbrev pub card_text : CardRefusal → List ℕ
card_text (Card card) = number_then 5 (number_then card (codes "a card has a number from 1 to 32"))
card_text (Taken card) = number_then 6 (number_then card (codes "card " ++ number_then card (codes "is on the sheet already")))
card_text (Absent card) = number_then 7 (number_then card (codes "card " ++ number_then card (codes "is not on the sheet")))
card_text (Outside w) = number_then 12 (number_then w.early (number_then w.late (codes "from " ++ number_then w.early (codes "to " ++ number_then w.late (codes "is not inside the posted window")))))
card_text (Job refusal) = job_text refusal

-- of a page's fault: number, card and byte
abbrev pub fault_text : PageFault → List ℕ
fault_text fault = number_then (fault_number fault) (number_then (fault_card fault) (decimal (fault_byte fault)))

-- the name of a status
abbrev pub status_text : Status → List ℕ
status_text Open = codes "open"
status_text Settled = codes "settled"
status_text Overloaded = codes "overloaded"

-- the two ends of a window
abbrev pub window_text : Window → List ℕ
window_text w = number_then w.early (decimal w.late)

-- both windows of a card and the status of its sheet
abbrev pub view_text : View → List ℕ
view_text v = window_text v.posted ++ 32 ∷ (window_text v.held ++ 32 ∷ status_text v.status)

-- of the cause of an overload: kind, face and its two jobs
abbrev pub cause_text : Cause → List ℕ
cause_text c = number_then (kind_number c.overload) (number_then (side_number c.side) (number_then (first_job c.overload) (decimal (second_job c.overload))))

-- how settling ended, after how many rounds, and why there is no plan
abbrev pub settlement_text : Settlement → List ℕ
settlement_text s = elim s.cause [
  | None ↦ codes "settled " ++ decimal s.rounds
  | Some c ↦ codes "overloaded " ++ number_then s.rounds (cause_text c)
]
