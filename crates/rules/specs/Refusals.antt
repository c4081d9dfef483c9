-- The number of each refusal. Assumes nothing.
use Rattle.std.specs.Prelude.{ℕ}
use Rattle.rules.specs.declared.refusals.JobRefusal.{JobRefusal}
use Rattle.rules.specs.declared.refusals.JobRefusal.TheVariants.{Setup, Duration, LateEnd, Room}
use Rattle.rules.specs.declared.refusals.CardRefusal.{CardRefusal}
use Rattle.rules.specs.declared.refusals.CardRefusal.TheVariants.{Card, Taken, Absent, Outside, Job}

-- of a job
abbrev pub job_number : JobRefusal → ℕ
job_number (Setup setup) = 8
job_number (Duration minutes) = 9
job_number (LateEnd late) = 10
job_number (Room window) = 11

-- of a call that names a card
abbrev pub card_number : CardRefusal → ℕ
card_number (Card card) = 5
card_number (Taken card) = 6
card_number (Absent card) = 7
card_number (Outside window) = 12
card_number (Job refusal) = job_number refusal

-- what is wrong with a job, as the call on its card says it
abbrev pub on_card : JobRefusal → CardRefusal
on_card refusal = Job refusal
