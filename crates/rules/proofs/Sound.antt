-- The rules hold, and turning holds. Assumes nothing.
use Rattle.rules.specs.Theorems.{RulesAlwaysHold, TurningAlwaysHolds}
use Rattle.rules.proofs.Bounds as bounds
use Rattle.rules.proofs.Keeping as keeping
use Rattle.rules.proofs.Halves as halves
use Rattle.rules.proofs.Turns as turns
use Rattle.rules.proofs.Rounds.{half_shrinks}

pub rules_hold : RulesAlwaysHold
rules_hold F b fine law = record {
  set_finishes = bounds.set_finishes F b fine law;
  pairs_keep = keeping.pairs_keep F b fine law;
  detectable_precedences_keep = keeping.detectable_precedences_keep F b fine law;
  not_last_keeps = keeping.not_last_keeps F b fine law;
  edge_finding_keeps = keeping.edge_finding_keeps F b fine law;
  overload_means_none = λ x e start possible. halves.overload_means_none F b fine law start possible x e;
  half_keeps = λ G e start possible. halves.half_keeps F b fine law start possible G e;
  half_narrows = λ G e j h. ((half_shrinks F b G e).opens j h, (half_shrinks F b G e).closes j h);
  half_fine = halves.half_fine F b fine;
}

pub turning_holds : TurningAlwaysHolds
turning_holds = turns.turning_holds
