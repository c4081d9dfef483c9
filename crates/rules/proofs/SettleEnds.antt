-- What holds of every end of settling, and that settling ends, in one way only. Assumes nothing.
use Rattle.std.proofs.Common.{◌≡◌, ℕ, zero, suc, ◌+◌, ◌<◌, ◌≤◌, false, cond, Some, None, sym, refl, subst, not-suc-le-zero, arith}
use Rattle.std.proofs.lemmas.Bool.{cond_both}
use Rattle.changeover.specs.Rows.{Lawful}
use Rattle.rules.specs.declared.outcome.Cause.{Cause}
use Rattle.rules.specs.Faces.{Face}
use Rattle.rules.specs.Rules.{clashing}
use Rattle.rules.specs.Settling.{Round, stops, leaves, round, unchanged, Outcome, Settles, ends_overloaded, ends_settled, next_round, minutes, all_minutes, settled_within}
use Rattle.rules.specs.Theorems.{Fine, Possible, RulesAlwaysHold, TurningAlwaysHolds}
use Rattle.rules.proofs.Minutes.{minutes_shrink, minutes_fall}
use Rattle.rules.proofs.Rounds.{Shrunk, shrunk_none, shrunk_n, shrunk_more, shrunk_lawful, Comes, round_stops, round_leaves}

-- what holds of an outcome O of settling F after r rounds
pub record Ends (F : Face) (r : ℕ) (O : Outcome) : Type 0 where
  pub held : Comes F O.held
  pub plans : (start : ℕ → ℕ) → Possible F start → Possible O.held start
  pub no_plan : (c : Cause) → O.cause ≡ Some c → (start : ℕ → ℕ) → Possible F start → ⊥
  pub no_clash : O.cause ≡ None → clashing O.held ≡ None
  pub rounds : O.rounds + all_minutes O.held ≤ r + 1 + all_minutes F

-- windows inside have no more minutes
shrunk_minutes : (F G : Face) → Shrunk F G → all_minutes G ≤ all_minutes F
shrunk_minutes F G s = subst (λ k. minutes G k ≤ all_minutes F) (sym (shrunk_n F G s)) (minutes_shrink F G s.opens s.closes F.n (omega arith))

-- and fewer where one changes
changed_minutes : (F G : Face) → Fine F → Shrunk F G → unchanged F G ≡ false → all_minutes G < all_minutes F
changed_minutes F G fine s e =
    subst (λ k. minutes G k < all_minutes F) (sym (shrunk_n F G s)) (minutes_fall F G s.opens s.closes (λ j h. omega (arith, fine.wide j h, fine.lasts j h)) F.n (omega arith) e)

module _ (rules : RulesAlwaysHold) (turning : TurningAlwaysHolds) (b : ℕ → ℕ) where
  -- every end of settling
  pub settles_ends : {F : Face} {r : ℕ} {O : Outcome} → Settles b F r O → Fine F → Lawful F.n F.gap b → Ends F r O
  settles_ends {F} {r} (ends_overloaded {G = G} {c = c} e) fine law =
      let t = round_stops rules turning F b fine law c G e in record {
        held = t.0;
        plans = λ start p. absurd (t.1 start p);
        no_plan = λ d is start p. t.1 start p;
        no_clash = λ is. absurd (let z : ◌≡◌ {A = ℕ} 0 1 = cc in omega arith);
        rounds = omega (arith, shrunk_minutes F G t.0.shrunk);
      }
  settles_ends {F} {r} (ends_settled {G = G} e u) fine law = record {
    held = record { shrunk = shrunk_none F; fine = fine };
    plans = λ start p. p;
    no_plan = λ d is. absurd (let z : ◌≡◌ {A = ℕ} 0 1 = cc in omega arith);
    no_clash = λ is. (round_leaves rules turning F b fine law G e).0;
    rounds = omega arith;
  }
  settles_ends {F} {r} {O} (next_round {G = G} e u more) fine law =
      let t = round_leaves rules turning F b fine law G e in
      let next = settles_ends more t.1.fine (shrunk_lawful F G b t.1.shrunk law) in record {
        held = record { shrunk = shrunk_more F G O.held t.1.shrunk next.held.shrunk; fine = next.held.fine };
        plans = λ start p. next.plans start (t.2 start p);
        no_plan = λ c is start p. next.no_plan c is start (t.2 start p);
        no_clash = next.no_clash;
        rounds = omega (arith, next.rounds, changed_minutes F G fine t.1.shrunk u);
      }

  -- a round and what is computed after it
  round_settles : (fuel : ℕ) (F : Face) (r : ℕ) → Fine F → Lawful F.n F.gap b → all_minutes F < suc fuel →
      ((G : Face) → Fine G → Lawful G.n G.gap b → all_minutes G < fuel → Settles b G (r + 1) (settled_within fuel b G (r + 1))) →
      (R : Round) → round F b ≡ R →
      Settles b F r (elim R [
        | stops c G ↦ record { cause = Some c; rounds = r + 1; held = G }
        | leaves G ↦ cond (unchanged F G) (record { cause = None; rounds = r + 1; held = F }) (settled_within fuel b G (r + 1))
      ])
  round_settles fuel F r fine law h later (stops c G) e = ends_overloaded e
  round_settles fuel F r fine law h later (leaves G) e =
      let t = (round_leaves rules turning F b fine law G e).1 in
      cond_both (unchanged F G) (record { cause = None; rounds = r + 1; held = F }) (settled_within fuel b G (r + 1)) (Settles b F r) (λ u. ends_settled e u)
      (λ u. next_round e u (later G t.fine (shrunk_lawful F G b t.shrunk law) (omega (arith, changed_minutes F G fine t.shrunk u))))

  -- with more fuel than minutes, what is computed is an end
  pub within_settles : (fuel : ℕ) (F : Face) (r : ℕ) → Fine F → Lawful F.n F.gap b → all_minutes F < fuel → Settles b F r (settled_within fuel b F r)
  unfolding settled_within
  within_settles zero F r fine law h = absurd (not-suc-le-zero h)
  within_settles (suc fuel) F r fine law h =
      round_settles fuel F r fine law h (λ G good keeps less. within_settles fuel G (r + 1) good keeps less) (round F b) refl

-- the relation has one outcome
pub settles_once : {b : ℕ → ℕ} {F : Face} {r : ℕ} {O P : Outcome} → Settles b F r O → Settles b F r P → P ≡ O
settles_once (ends_overloaded e) (ends_overloaded f) = cc
settles_once (ends_overloaded e) (ends_settled f v) = cc
settles_once (ends_overloaded e) (next_round f v q) = cc
settles_once (ends_settled e u) (ends_overloaded f) = cc
settles_once (ends_settled e u) (ends_settled f v) = cc
settles_once (ends_settled e u) (next_round f v q) = cc
settles_once (next_round e u p) (ends_overloaded f) = cc
settles_once (next_round e u p) (ends_settled f v) = cc
settles_once {b} {r = r} {P = P} (next_round {G = G} e u p) (next_round {G = H} f v q) =
    let same : H ≡ G = cc in settles_once p (subst (λ X. Settles b X (r + 1) P) same q)
