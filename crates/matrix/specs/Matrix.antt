-- A changeover matrix of m setups, given as numbers row by row, and the questions that are asked of it. Assumes nothing.
-- Setups are counted from 1.
use Rattle.std.specs.Prelude.{◌≡◌, ℕ, zero, suc, ◌+◌, ◌-◌, ◌*◌, ◌<◌, ◌≤◌, Bool, cond, ◌&&◌, ◌⊎◌, List, length, Some, None, Ok, Err, Option, Result, ◌==◌, ◌≢◌, nat_le, nat_lt, slice_index}
use Rattle.matrix.specs.declared.refusals.Entry.{Entry}
use Rattle.matrix.specs.declared.refusals.Triple.{Triple}
use Rattle.matrix.specs.declared.refusals.MatrixRefusal.{MatrixRefusal}
use Rattle.matrix.specs.declared.refusals.MatrixRefusal.TheVariants.{Setups, Count, TooGreat, Triangle}

-- M(a, b), the changeover from setup a to setup b
abbrev pub changeover : ℕ → List ℕ → ℕ → ℕ → ℕ
changeover m numbers a b = slice_index numbers (m * (a - 1) + (b - 1))

-- x, or y where x is none
abbrev pub or_else : {X : Type 0} → Option X → Option X → Option X
or_else (Some x) y = Some x
or_else None y = y

-- what f gives at the first of 1, 2, .. n at which it gives something
abbrev pub first : {X : Type 0} → (ℕ → Option X) → ℕ → Option X
first f zero = None
first f (suc k) = or_else (first f k) (f (suc k))

-- M(a, b), where it is above 10,000
abbrev pub too_great : ℕ → List ℕ → ℕ → ℕ → Option Entry
too_great m numbers a b =
    cond (nat_lt 10000 (changeover m numbers a b)) (Some (record { from = a; to = b; minutes = changeover m numbers a b })) None

-- the first that is above 10,000, row by row
abbrev pub first_too_great : ℕ → List ℕ → Option Entry
first_too_great m numbers = first (λ a. first (too_great m numbers a) m) m

-- whether going from a to b takes longer than by way of c
abbrev pub breaks : ℕ → List ℕ → Triple → Bool
breaks m numbers t = nat_lt (changeover m numbers t.from t.via + changeover m numbers t.via t.to) (changeover m numbers t.from t.to)

-- the triple, where it breaks the triangle inequality
abbrev pub broken : ℕ → List ℕ → ℕ → ℕ → ℕ → Option Triple
broken m numbers a b c = let t : Triple = record { from = a; to = b; via = c } in cond (breaks m numbers t) (Some t) None

-- the first triple that breaks the triangle inequality, by a, then b, then c
abbrev pub first_broken : ℕ → List ℕ → Option Triple
first_broken m numbers = first (λ a. first (λ b. first (broken m numbers a b) m) m) m

-- refused with what was found, or else answered by r
abbrev pub refused_or : {X : Type 0} → (X → MatrixRefusal) → Option X → Result (Unit {0}) MatrixRefusal → Result (Unit {0}) MatrixRefusal
refused_or refusal (Some x) r = Err (refusal x)
refused_or refusal None r = r

-- THE ANSWER for every m and every list of numbers: the questions in their order, the first "no" refuses
abbrev pub matrix_answer : ℕ → List ℕ → Result (Unit {0}) MatrixRefusal
matrix_answer m numbers =
    cond (nat_le 1 m && nat_le m 16)
    (cond (length numbers == m * m)
    (refused_or TooGreat (first_too_great m numbers) (refused_or Triangle (first_broken m numbers) (Ok tt)))
    (Err (Count (length numbers))))
    (Err (Setups m))

-- the number of each refusal
abbrev pub matrix_number : MatrixRefusal → ℕ
matrix_number (Setups m) = 1
matrix_number (Count n) = 2
matrix_number (TooGreat e) = 3
matrix_number (Triangle t) = 4

-- a is one of the m setups
abbrev pub Setup : ℕ → ℕ → Type 0
Setup m a = (1 ≤ a) × (a ≤ m)

-- there are 1 to 16 setups
abbrev pub Sized : ℕ → Type 0
Sized m = (1 ≤ m) × (m ≤ 16)

-- no changeover is above 10,000
abbrev pub Small : ℕ → List ℕ → Type 0
Small m numbers = (a b : ℕ) → Setup m a → Setup m b → changeover m numbers a b ≤ 10000

-- no changeover is longer than by way of a third setup
abbrev pub Triangular : ℕ → List ℕ → Type 0
Triangular m numbers =
    (a b c : ℕ) → Setup m a → Setup m b → Setup m c → changeover m numbers a b ≤ changeover m numbers a c + changeover m numbers c b

-- row by row, a and b come before e
abbrev pub BeforeEntry : ℕ → ℕ → Entry → Type 0
BeforeEntry a b e = (a < e.from) ⊎ ((a ≡ e.from) × (b < e.to))

-- e is the first changeover above 10,000
pub record FirstTooGreat (m : ℕ) (numbers : List ℕ) (e : Entry) : Type 0 where
  pub setups : Setup m e.from × Setup m e.to
  pub minutes : e.minutes ≡ changeover m numbers e.from e.to
  pub above : 10000 < e.minutes
  pub earlier : (a b : ℕ) → Setup m a → Setup m b → BeforeEntry a b e → changeover m numbers a b ≤ 10000

-- by a, then b, then c, they come before t
abbrev pub BeforeTriple : ℕ → ℕ → ℕ → Triple → Type 0
BeforeTriple a b c t = (a < t.from) ⊎ ((a ≡ t.from) × ((b < t.to) ⊎ ((b ≡ t.to) × (c < t.via))))

-- t is the first triple that breaks the triangle inequality
pub record FirstBroken (m : ℕ) (numbers : List ℕ) (t : Triple) : Type 0 where
  pub setups : Setup m t.from × Setup m t.to × Setup m t.via
  pub longer : changeover m numbers t.from t.via + changeover m numbers t.via t.to < changeover m numbers t.from t.to
  pub earlier : (a b c : ℕ) → Setup m a → Setup m b → Setup m c → BeforeTriple a b c t → changeover m numbers a b ≤ changeover m numbers a c + changeover m numbers c b

-- all questions have the answer "yes"
pub record Accepted (m : ℕ) (numbers : List ℕ) : Type 0 where
  pub sized : Sized m
  pub complete : length numbers ≡ m * m
  pub small : Small m numbers
  pub triangular : Triangular m numbers

-- why a refusal is right: its question has the answer "no", and those before it "yes"
abbrev pub Refused : ℕ → List ℕ → MatrixRefusal → Type 0
Refused m numbers (Setups given) = (given ≡ m) × (Sized m → ⊥)
Refused m numbers (Count given) = Sized m × (given ≡ length numbers) × (length numbers ≢ m * m)
Refused m numbers (TooGreat e) = Sized m × (length numbers ≡ m * m) × FirstTooGreat m numbers e
Refused m numbers (Triangle t) = Sized m × (length numbers ≡ m * m) × Small m numbers × FirstBroken m numbers t

-- what an answer says of the numbers
abbrev pub Judged : ℕ → List ℕ → Result (Unit {0}) MatrixRefusal → Type 0
Judged m numbers (Ok x) = Accepted m numbers
Judged m numbers (Err refusal) = Refused m numbers refusal
