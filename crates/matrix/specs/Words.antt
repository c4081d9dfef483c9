-- The words in which a refusal is printed. Assumes nothing.
use Rattle.std.specs.Prelude.{ℕ, List, ◌++◌, codes, decimal}
use Rattle.matrix.specs.declared.refusals.Entry.{Entry}
use Rattle.matrix.specs.declared.refusals.Triple.{Triple}
use Rattle.matrix.specs.declared.refusals.MatrixRefusal.{MatrixRefusal}
use Rattle.matrix.specs.declared.refusals.MatrixRefusal.TheVariants.{Setups, Count, TooGreat, Triangle}
use Rattle.matrix.specs.Matrix.{matrix_number}

-- the setups a and b and the number c, then the way from a to b, then more
abbrev pub way_text : ℕ → ℕ → ℕ → List ℕ → List ℕ
way_text a b c more =
    decimal a ++ (codes " " ++ (decimal b ++ (codes " " ++ (decimal c ++ (codes " from setup " ++ (decimal a ++ (codes " to setup " ++ (decimal b ++ more))))))))

-- a changeover that is above 10,000
abbrev pub entry_text : Entry → List ℕ
entry_text e = way_text e.from e.to e.minutes (codes " takes more than 10000 minutes")

-- a triple that breaks the triangle inequality
abbrev pub triple_text : Triple → List ℕ
triple_text t = way_text t.from t.to t.via (codes " takes longer than by way of setup " ++ decimal t.via)

-- the values that a question refuses, and the reason
abbrev pub reason_text : MatrixRefusal → List ℕ
reason_text (Setups m) = decimal m ++ codes " a matrix has 1 to 16 setups"
reason_text (Count n) = decimal n ++ codes " a matrix has one number for each setup and each setup after it"
reason_text (TooGreat e) = entry_text e
reason_text (Triangle t) = triple_text t

-- the number of the question, and then these
abbrev pub refusal_text : MatrixRefusal → List ℕ
refusal_text refusal = decimal (matrix_number refusal) ++ (codes " " ++ reason_text refusal)
