-- What settling promises of every job book. Assumes nothing.
use Rattle.std.proofs.Common.{◌≡◌, ℕ, ◌+◌, ◌<◌, ◌≤◌, true, None, subst, inl, inr, ⊎_elim, arith}
use Rattle.std.proofs.lemmas.Bool.{leb-true}
use Rattle.rules.specs.Faces.{Face, earliest_finish, latest_start}
use Rattle.rules.specs.Rules.{can_precede, clashing}
use Rattle.rules.specs.Settling.{Settles, all_minutes, settled}
use Rattle.rules.specs.Plans.{Jobs, Limits, Fits, face_of, Precedes, Separated}
use Rattle.rules.specs.Theorems.{RulesAlwaysHold, TurningAlwaysHolds, SettlingAlwaysHolds}
use Rattle.rules.proofs.Fitting.{first_face_fine, fits_possible}
use Rattle.rules.proofs.Orders.{sorted, sorted_order, sorted_chain}
use Rattle.rules.proofs.Rounds.{windows, Shrunk, Comes, shrunk_n, shrunk_duration}
use Rattle.rules.proofs.SettleFinds.{one_can_precede}
use Rattle.rules.proofs.SettleEnds.{Ends, settles_ends, within_settles, settles_once}

module _ (F : Face) (single : (j : ℕ) → j < F.n → F.late j ≡ F.early j + F.duration j) where
  -- where the windows are as long as the jobs, a job that can precede another precedes it
  single_precedes : (i j : ℕ) → i < F.n → j < F.n → can_precede F i j ≡ true → Precedes F F.early i j
  unfolding can_precede
  single_precedes i j hi hj e = omega (arith, leb-true (earliest_finish F i + F.gap i j) (latest_start F j) e, single i hi, single j hj)

  -- and where no two jobs clash, their early ends are separated
  single_separated : clashing F ≡ None → Separated F F.early
  single_separated e i j hi hj d =
      ⊎_elim (λ t. inl (single_precedes i j hi hj t)) (λ t. inr (single_precedes j i hj hi t)) (one_can_precede F e i j hi hj d)

-- the early ends of windows inside the posted ones fit, where each is as long as its job and no two jobs clash
single_fits : (J : Jobs) → Limits J → (F : Face) → Shrunk (face_of J) F → clashing F ≡ None → ((j : ℕ) → j < J.n → F.late j ≡ F.early j + J.duration j) → Fits J F.early
single_fits J limits F from e single =
    let G = windows (face_of J) F.early F.late in record {
      opens = from.opens;
      closes = λ j h. omega (arith, single j h, from.closes j h);
      order = sorted F.early J.n;
      whole = sorted_order F.early J.n;
      apart = sorted_chain G F.early (λ j h. (limits.lasts j h).0) (single_separated G single (subst (λ X. clashing X ≡ None) from.same e)) J.n (omega arith);
    }

-- windows that come of the first face lie inside the posted ones and have room for their jobs
room_inside : (J : Jobs) (F : Face) → Comes (face_of J) F → (j : ℕ) → j < J.n → (J.early j ≤ F.early j) × (F.late j ≤ J.late j) × (F.early j + J.duration j ≤ F.late j)
room_inside J F from j h =
    let there : j < F.n = omega (arith, shrunk_n (face_of J) F from.shrunk) in
    (from.shrunk.opens j h, from.shrunk.closes j h, omega (arith, from.fine.wide j there, shrunk_duration (face_of J) F from.shrunk j))

module _ (rules : RulesAlwaysHold) (turning : TurningAlwaysHolds) where
  -- THE PROMISES
  pub settling_holds : SettlingAlwaysHolds
  unfolding settled
  settling_holds J b limits law =
      let F = face_of J in
      let fine = first_face_fine J limits in
      let run : Settles b F 0 (settled b F) = within_settles rules turning b (all_minutes F + 1) F 0 fine law (omega arith) in
      let ends : Ends F 0 (settled b F) = settles_ends rules turning b run fine law in record {
        every_plan_inside_held = λ start f j h.
            let inside = (ends.plans start (fits_possible J limits start f)).0 in
            let there : j < (settled b F).held.n = omega (arith, shrunk_n F (settled b F).held ends.held.shrunk) in
            (inside.opens j there, omega (arith, inside.closes j there, shrunk_duration F (settled b F).held ends.held.shrunk j));
        no_plan_when_overloaded = λ c is start f. ends.no_plan c is start (fits_possible J limits start f);
        single_starts_fit = λ is single. single_fits J limits (settled b F).held ends.held.shrunk (ends.no_clash is) single;
        held_inside_posted = room_inside J (settled b F).held ends.held;
        rounds_within_minutes_cut = omega (arith, ends.rounds);
        by_the_rules = run;
        no_other = λ O other. settles_once run other;
      }
