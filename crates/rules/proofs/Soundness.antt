-- That a book is sound is one fact, in however many ways it is known: so it comes out of a ghost field. Assumes nothing.
use Rattle.std.proofs.Common.{◌≡◌, true, false, is_ok, Ok, Err, Result, refl, ap}
use mathlib.Core.Bool.{Bool-set}
use mathlib.Core.Logic.{∥∥₁_elim}
use native.Mathlib.Nat.{ℕ_set}
use native.Mathlib.Bridge.{le_prop}
use Rattle.std.proofs.lemmas.Bool.{both_ways}
use Rattle.rules.specs.declared.sheet.Job.{Job}
use Rattle.rules.specs.declared.sheet.Window.{Window}
use Rattle.rules.specs.Books.{Book, no_job, no_window, job_on, posted_on}
use Rattle.rules.specs.Sounds.{Sound}

ok_is : {E : Type 0} (r : Result (Unit {0}) E) → is_ok r ≡ true → r ≡ Ok tt
ok_is (Ok x) e = refl
ok_is (Err y) e = absurd (both_ways false refl e)

same_job : (job other : Job) → job.setup ≡ other.setup → job.duration ≡ other.duration → job ≡ other
same_job job other s d = λ r. record { setup = s r; duration = d r }

same_window : (w other : Window) → w.early ≡ other.early → w.late ≡ other.late → w ≡ other
same_window w other e l = λ r. record { early = e r; late = l r }

pub sound : (B : Book) → ∥ Sound B ∥₁ → Sound B
sound B some = record {
  sized = (∥∥₁_elim some le_prop (λ s. s.sized.0), ∥∥₁_elim some le_prop (λ s. s.sized.1));
  long_changeovers = ∥∥₁_elim some (ℕ_set _ _) (λ s. s.long_changeovers);
  small = λ k. ∥∥₁_elim some le_prop (λ s. s.small k);
  triangular = λ a b c ha hb hc. ∥∥₁_elim some le_prop (λ s. s.triangular a b c ha hb hc);
  outside = λ k h. ∥∥₁_elim some (ℕ_set _ _) (λ s. s.outside k h);
  chained = ∥∥₁_elim some (Bool-set _ _) (λ s. s.chained);
  long_jobs = ∥∥₁_elim some (ℕ_set _ _) (λ s. s.long_jobs);
  long_posted = ∥∥₁_elim some (ℕ_set _ _) (λ s. s.long_posted);
  passing = λ card on. ok_is _ (∥∥₁_elim some (Bool-set _ _) (λ s. ap is_ok (s.passing card on)));
  blank = λ card is off. (
    same_job (job_on B card) no_job (∥∥₁_elim some (ℕ_set _ _) (λ s. ap (λ (job : Job). job.setup) (s.blank card is off).0)) (∥∥₁_elim some (ℕ_set _ _) (λ s. ap (λ (job : Job). job.duration) (s.blank card is off).0)),
    same_window (posted_on B card) no_window (∥∥₁_elim some (ℕ_set _ _) (λ s. ap (λ (w : Window). w.early) (s.blank card is off).1)) (∥∥₁_elim some (ℕ_set _ _) (λ s. ap (λ (w : Window). w.late) (s.blank card is off).1)),
  );
}
