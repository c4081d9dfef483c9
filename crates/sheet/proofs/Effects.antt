-- What the calls leave of a job book. Assumes nothing.
use Rattle.std.proofs.Common.{◌≡◌, ℕ, ◌-◌, true, cond, List, [], ◌∷◌, ◌++◌, set, replicate, Ok, Err, Result, sym, ◌∙◌, subst, ap₂}
use mathlib.Core.Logic.{∥∥₁_map}
use Rattle.matrix.specs.Matrix.{matrix_answer}
use Rattle.rules.specs.declared.sheet.Job.{Job}
use Rattle.rules.specs.declared.sheet.Window.{Window}
use Rattle.rules.specs.Books.{Book, no_job, no_window, laid_out}
use Rattle.rules.specs.Cards.{member, is_card, without}
use Rattle.rules.specs.Models.{fresh_book, left_by, post_answer, with_job, without_job, with_window}
use Rattle.rules.specs.Sounds.{Sound}
use Rattle.rules.proofs.Sounds.{fresh_sound, asked_true, asked_false}
use Rattle.chain.specs.Listed.{can_join}

-- the book of a sheet that was just made
pub fresh_as : (m : ℕ) (numbers rows chain : List ℕ) → rows ≡ laid_out m numbers → chain ≡ [] → ◌≡◌ {A = Book} (record { setups = m; changeovers = rows; chain = chain; jobs = replicate 32 no_job; posted = replicate 32 no_window }) (fresh_book m numbers)
unfolding fresh_book
fresh_as m numbers rows chain rows_are chain_is =
    ap₂ (λ (xs ks : List ℕ). let B : Book = record { setups = m; changeovers = xs; chain = ks; jobs = replicate 32 no_job; posted = replicate 32 no_window } in B) rows_are chain_is

-- it is sound
pub fresh_good : (m : ℕ) (numbers : List ℕ) (B : Book) → matrix_answer m numbers ≡ Ok tt → B ≡ fresh_book m numbers → ∥ Sound B ∥₁
fresh_good m numbers B accepted same = ∣ subst Sound (sym same) (fresh_sound m numbers accepted) ∣₁

-- a book that a lemma shows to be sound, by another name
pub good : (B B' : Book) → (Sound B → Sound B') → ∥ Sound B ∥₁ → ∥ Sound B' ∥₁
good B B' keep some = ∥∥₁_map {B = Sound B'} some keep

-- a refused call changes nothing
pub refused_keeps : {E X : Type 0} (answer : Result (Unit {0}) E) (e : E) (new old : X) → answer ≡ Err e → old ≡ left_by answer new old
refused_keeps answer e new old is = rw is

-- an accepted one leaves the new
pub accepted_leaves : {E X : Type 0} (answer : Result (Unit {0}) E) (new old : X) → answer ≡ Ok tt → new ≡ left_by answer new old
accepted_leaves answer new old is = rw is

-- a card that a job may be put on can join the chain
can_join_posted : (B : Book) (card : ℕ) (job : Job) (w : Window) → post_answer B card job w ≡ Ok tt → can_join card B.chain ≡ true
can_join_posted B card job w granted =
    let p = asked_true (is_card card) _ _ granted in
    let q = asked_false (member card B.chain) _ _ p.1 in
    rw (p.0, q.0)

-- what an accepted post leaves of the book
pub posted_as : (B : Book) (card place : ℕ) (job : Job) (w : Window) (chain : List ℕ) → place ≡ card → post_answer B card job w ≡ Ok tt → chain ≡ cond (can_join card B.chain) (B.chain ++ card ∷ []) B.chain → ◌≡◌ {A = Book} (record { setups = B.setups; changeovers = B.changeovers; chain = chain; jobs = set B.jobs (place - 1) job; posted = set B.posted (place - 1) w }) (with_job B card job w)
posted_as B card place job w chain at granted joined =
    let joins = can_join_posted B card job w granted in
    ap₂ (λ (ks : List ℕ) (p : ℕ). let B' : Book = record { setups = B.setups; changeovers = B.changeovers; chain = ks; jobs = set B.jobs (p - 1) job; posted = set B.posted (p - 1) w } in B') (joined ∙ rw joins) at

-- what an accepted narrow and an accepted withdraw leave of it
pub narrowed_as : (B : Book) (card place : ℕ) (w : Window) → place ≡ card → ◌≡◌ {A = Book} (record { setups = B.setups; changeovers = B.changeovers; chain = B.chain; jobs = B.jobs; posted = set B.posted (place - 1) w }) (with_window B card w)
narrowed_as B card place w at = rw at

pub withdrawn_as : (B : Book) (card place : ℕ) (chain : List ℕ) → place ≡ card → chain ≡ without card B.chain → ◌≡◌ {A = Book} (record { setups = B.setups; changeovers = B.changeovers; chain = chain; jobs = set B.jobs (place - 1) no_job; posted = set B.posted (place - 1) no_window }) (without_job B card)
withdrawn_as B card place chain at left = rw (at, left)
