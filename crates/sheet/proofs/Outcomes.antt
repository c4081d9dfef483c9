-- What settling a sheet leaves and answers is what is defined of its job book. Assumes nothing.
use Rattle.std.proofs.Common.{◌≡◌, ℕ, ◌+◌, cond, List, map, length, Option, ap}
use mathlib.Core.Path.{fun_ext}
use Rattle.std.specs.List.{range_with_len}
use Rattle.rules.specs.declared.outcome.Cause.{Cause}
use Rattle.rules.specs.declared.sheet.Window.{Window}
use Rattle.rules.specs.declared.sheet.Status.{Status}
use Rattle.rules.specs.declared.sheet.Settlement.{Settlement}
use Rattle.rules.specs.Cards.{member, rising_to}
use Rattle.rules.specs.Faces.{Face}
use Rattle.rules.specs.Plans.{face_of}
use Rattle.rules.specs.Settling.{settled}
use Rattle.rules.specs.Books.{Book, no_window, jobs_in}
use Rattle.rules.specs.Models.{Model, Meaning, outcome, window_after, by_card}
use Rattle.filtering.specs.Ends.{Held}
use Rattle.sheet.specs.Read.{after_place, by_card_of}

-- windows in card order, by card
pub held_by_card : (B : Book) (F : Face) (windows : List Window) → Held F windows → by_card_of B.chain windows ≡ by_card B F
unfolding by_card_of by_card
held_by_card B F windows held =
    let same : after_place B.chain windows ≡ window_after B F = fun_ext (λ k. ap (λ (w : Window). cond (member (k + 1) B.chain) w no_window) (held (length (rising_to B.chain k)))) in
    ap (λ (f : ℕ → Window). map f (range_with_len 0 32)) same

-- settling the first face of a book
pub outcome_is : (f : Meaning) (B : Book) (F : Face) → F ≡ face_of (jobs_in B) → settled (f F.n F.gap) F ≡ outcome f B
unfolding outcome
outcome_is f B F same = ap (λ (G : Face). settled (f G.n G.gap) G) same

-- part by part the same
pub same_sheet : (B : Book) {held held' : List Window} {status status' : Status} {rounds rounds' : ℕ} → held ≡ held' → status ≡ status' → rounds ≡ rounds' → ◌≡◌ {A = Model} (record { book = B; held = held; status = status; rounds = rounds }) (record { book = B; held = held'; status = status'; rounds = rounds' })
same_sheet B held_are status_is rounds_are = λ r. record { book = B; held = held_are r; status = status_is r; rounds = rounds_are r }

pub same_answer : {rounds rounds' : ℕ} {cause cause' : Option Cause} → rounds ≡ rounds' → cause ≡ cause' → ◌≡◌ {A = Settlement} (record { rounds = rounds; cause = cause }) (record { rounds = rounds'; cause = cause' })
same_answer rounds_are cause_is = λ r. record { rounds = rounds_are r; cause = cause_is r }
