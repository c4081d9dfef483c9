-- The worked examples: each follows from the definitions by computing. Assumes nothing.
use Rattle.std.specs.Prelude.{◌≡◌, ℕ, ◌+◌, List, [], ◌∷◌, map, Some, None, Err, slice_index, slice_index_or}
use Rattle.matrix.specs.declared.refusals.MatrixRefusal.TheVariants.{Triangle}
use Rattle.matrix.specs.Matrix.{changeover, matrix_answer}
use Rattle.changeover.specs.Kinds.{shortest_walk, zeros}
use Rattle.changeover.specs.Rows.{Lawful}
use Rattle.theta_nodes.specs.declared.grey.Grey.{Grey}
use Rattle.theta_nodes.specs.Grey.{empty_grey}
use Rattle.theta_nodes.specs.Leaves.{Leaf, nothing_here, white_here, grey_here, white_root, grey_tree}
use Rattle.rules.specs.declared.outcome.Overload.TheVariants.{NeitherFirst, TooMuch}
use Rattle.rules.specs.declared.outcome.Side.TheVariants.{First}
use Rattle.rules.specs.Plans.{Limits, gap_between}
use Rattle.examples.specs.Books.{told, walk_of, two_jobs, three_jobs, no_jobs}

-- four setups, row by row
abbrev pub rows : List ℕ
rows = 0 ∷ 3 ∷ 4 ∷ 3 ∷ 6 ∷ 0 ∷ 2 ∷ 5 ∷ 4 ∷ 7 ∷ 0 ∷ 2 ∷ 4 ∷ 7 ∷ 8 ∷ 0 ∷ []

-- one job for each of them
abbrev pub gap : ℕ → ℕ → ℕ
gap i j = changeover 4 rows (i + 1) (j + 1)

-- the numbers 0, 10, 20 and 0, 1, 5
abbrev pub tens : ℕ → ℕ
tens e = slice_index (0 ∷ 10 ∷ 20 ∷ []) e

abbrev pub one_and_five : ℕ → ℕ
one_and_five e = slice_index (0 ∷ 1 ∷ 5 ∷ []) e

-- leaves with early ends 0, 15, 25 and 30 and durations 10, 10, 20 and 25, at the places 0 to 3
abbrev pub four : ℕ → Leaf
four p = slice_index_or (white_here 10 10 ∷ white_here 10 25 ∷ white_here 20 45 ∷ white_here 25 55 ∷ []) p nothing_here

-- the same with the third one grey
abbrev pub third_grey : ℕ → Leaf
third_grey p = slice_index_or (white_here 10 10 ∷ white_here 10 25 ∷ grey_here 20 45 ∷ white_here 25 55 ∷ []) p nothing_here

unfoldable pub third_grey_root : Grey
third_grey_root = slice_index_or (grey_tree tens third_grey) 0 empty_grey

-- three leaves with early end 0 and duration 10, at the places 0 to 2, and at the places 1 to 3
abbrev pub three_from_0 : ℕ → Leaf
three_from_0 p = slice_index_or (white_here 10 10 ∷ white_here 10 10 ∷ white_here 10 10 ∷ []) p nothing_here

abbrev pub three_from_1 : ℕ → Leaf
three_from_1 p = slice_index_or (nothing_here ∷ white_here 10 10 ∷ white_here 10 10 ∷ white_here 10 10 ∷ []) p nothing_here

-- THE LIST
pub record WorkedExamples : Type 0 where
  -- the walk numbers of four setups, with one job each
  pub walk_numbers : map (shortest_walk 4 gap) (0 ∷ 1 ∷ 2 ∷ 3 ∷ []) ≡ 0 ∷ 2 ∷ 4 ∷ 7 ∷ []
  -- as a matrix the same rows are refused with 4, at the triple 2, 4, 3
  pub matrix_refused : matrix_answer 4 rows ≡ Err (Triangle (record { from = 2; to = 4; via = 3 }))
  -- four white leaves, with the numbers 0, 10, 20 and with zeros
  pub four_with_tens : (white_root tens four).finish ≡ Some 95
  pub four_with_zeros : (white_root zeros four).finish ≡ Some 70
  -- with the third leaf grey
  pub third_grey_white : third_grey_root.white.finish ≡ Some 65
  pub third_grey_grey : third_grey_root.grey.finish ≡ Some 95
  pub third_grey_responsible : third_grey_root.responsible ≡ Some 2
  -- the same leaves at other places finish at another time
  pub three_at_0_to_2 : (white_root one_and_five three_from_0).finish ≡ Some 32
  pub three_at_1_to_3 : (white_root one_and_five three_from_1).finish ≡ Some 35
  -- neither of two jobs can precede the other
  pub neither_first : told (walk_of (two_jobs 10)) (two_jobs 10) ≡ record {
    cause = Some (record { overload = NeitherFirst 0 1; side = First });
    rounds = 1;
    held = record { from = 0; to = 10 } ∷ record { from = 0; to = 10 } ∷ [];
  }
  -- with a minute more the second can precede the first, and both are fixed
  pub both_fixed : told (walk_of (two_jobs 11)) (two_jobs 11) ≡ record {
    cause = None;
    rounds = 2;
    held = record { from = 7; to = 11 } ∷ record { from = 0; to = 5 } ∷ [];
  }
  -- three jobs and two changeovers take 50 minutes: 49 are too few by the shortest walk
  pub too_much : told (walk_of (three_jobs 49)) (three_jobs 49) ≡ record {
    cause = Some (record { overload = TooMuch 2; side = First });
    rounds = 1;
    held = record { from = 0; to = 49 } ∷ record { from = 0; to = 49 } ∷ record { from = 0; to = 49 } ∷ [];
  }
  -- 50 are enough
  pub just_enough : told (walk_of (three_jobs 50)) (three_jobs 50) ≡ record {
    cause = None;
    rounds = 1;
    held = record { from = 0; to = 50 } ∷ record { from = 0; to = 50 } ∷ record { from = 0; to = 50 } ∷ [];
  }
  -- without a bound 49 settle
  pub unseen_without_bound : told zeros (three_jobs 49) ≡ record {
    cause = None;
    rounds = 1;
    held = record { from = 0; to = 49 } ∷ record { from = 0; to = 49 } ∷ record { from = 0; to = 49 } ∷ [];
  }
  -- no jobs settle
  pub no_jobs_settle : told (walk_of no_jobs) no_jobs ≡ record { cause = None; rounds = 1; held = [] }
  -- the premises of what is proved of settling can be met
  pub limits_met : Limits (two_jobs 11)
  pub law_met : Lawful 2 (gap_between (two_jobs 11)) (walk_of (two_jobs 11))
