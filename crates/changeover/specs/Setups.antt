-- The gaps between jobs of which there is one for each setup. Assumes nothing.
use Rattle.std.specs.Prelude.{◌≡◌, ℕ, ◌+◌, ◌<◌, List, Ok, Err, Result}
use Rattle.matrix.specs.declared.refusals.MatrixRefusal.{MatrixRefusal}
use Rattle.matrix.specs.Matrix.{changeover, matrix_answer, Accepted}
use Rattle.changeover.specs.declared.gaps.Gaps.{Gaps}
use Rattle.changeover.specs.Table.{jobs_of, gap_of}

-- a matrix that is accepted gives its changeovers as the gaps, any other its refusal
abbrev pub OneJobEach : ℕ → List ℕ → Result Gaps MatrixRefusal → Type 0
OneJobEach m numbers (Ok gaps) =
    Accepted m numbers × (jobs_of gaps ≡ m) × ((i j : ℕ) → i < m → j < m → gap_of gaps i j ≡ changeover m numbers (i + 1) (j + 1))
OneJobEach m numbers (Err refusal) = matrix_answer m numbers ≡ Err refusal
