-- What every question of the calls leaves true of a job book. Assumes nothing.
use Rattle.std.specs.Prelude.{◌≡◌, ℕ, ◌+◌, ◌/◌, ◌%◌, ◌≤◌, true, false, ◌&&◌, length, Ok, nat_lt, slice_index}
use Rattle.matrix.specs.Matrix.{changeover, Setup, Sized}
use Rattle.rules.specs.Cards as cards
use Rattle.rules.specs.Cards.{member, is_card}
use Rattle.rules.specs.Books.{Book, no_job, no_window, job_on, posted_on}
use Rattle.rules.specs.Models.{job_answer}

-- SOUND: the matrix is one that make accepts, each job on the chain passes its questions, and what is unused is zero
pub record Sound (B : Book) : Type 0 where
  pub sized : Sized B.setups
  pub long_changeovers : length B.changeovers ≡ 256
  pub small : (k : ℕ) → slice_index B.changeovers k ≤ 10000
  pub triangular : (a b c : ℕ) → Setup B.setups a → Setup B.setups b → Setup B.setups c → changeover 16 B.changeovers a b ≤ changeover 16 B.changeovers a c + changeover 16 B.changeovers c b
  -- 0 where there is no such setup
  pub outside : (k : ℕ) → (nat_lt (k / 16) B.setups && nat_lt (k % 16) B.setups) ≡ false → slice_index B.changeovers k ≡ 0
  pub chained : cards.chained B.chain ≡ true
  pub long_jobs : length B.jobs ≡ 32
  pub long_posted : length B.posted ≡ 32
  -- each job has passed its questions
  pub passing : (card : ℕ) → member card B.chain ≡ true → job_answer B.setups (job_on B card) (posted_on B card) ≡ Ok tt
  -- nothing is on a card that is not on the sheet
  pub blank : (card : ℕ) → is_card card ≡ true → member card B.chain ≡ false → (job_on B card ≡ no_job) × (posted_on B card ≡ no_window)
