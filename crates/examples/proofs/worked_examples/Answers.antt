use Rattle.std.proofs.Common.{refl}
use Rattle.changeover.specs.Laws.{walk_lawful}
use Rattle.theta.specs.Tree.{paired, level, grown, row}
use Rattle.theta_nodes.specs.White.{white_join}
use Rattle.theta_nodes.specs.Grey.{grey_join}
use Rattle.theta_nodes.specs.Leaves.{white_root, grey_tree}
use Rattle.rules.specs.Faces.{turned}
use Rattle.rules.specs.Places.{count, place, first_such, leaves, E}
use Rattle.rules.specs.Rules.{greatest, least_over, first_in, after, can_precede, clash, clashing, up_to, too_much, overloading, pair_early, detected, detected_early, rivals, not_last_late, with_job, tight, edge_early, new_early, new_late, shortened, half_round}
use Rattle.rules.specs.Settling.{round, same_windows, minutes, settled_within, settled}
use Rattle.rules.specs.Plans.{gap_between}
use Rattle.examples.specs.Books.{told, two_jobs}
use Rattle.examples.specs.Examples.{third_grey_root}
use Rattle.examples.proofs.Premises.{two_jobs_limits}
use Rattle.examples.proofs.worked_examples.Goals as goal

pub returns : goal.returns
unfolding white_join grey_join paired level grown row white_root grey_tree third_grey_root turned count place first_such leaves E greatest least_over first_in after can_precede clash clashing up_to too_much overloading pair_early detected detected_early rivals not_last_late with_job tight edge_early new_early new_late shortened half_round round same_windows minutes settled_within settled told
returns c = record {
  walk_numbers = refl;
  matrix_refused = refl;
  four_with_tens = refl;
  four_with_zeros = refl;
  third_grey_white = refl;
  third_grey_grey = refl;
  third_grey_responsible = refl;
  three_at_0_to_2 = refl;
  three_at_1_to_3 = refl;
  neither_first = refl;
  both_fixed = refl;
  too_much = refl;
  just_enough = refl;
  unseen_without_bound = refl;
  no_jobs_settle = refl;
  limits_met = two_jobs_limits;
  law_met = walk_lawful 2 (gap_between (two_jobs 11));
}
