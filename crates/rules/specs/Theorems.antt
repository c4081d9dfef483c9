-- What is proved of the rules and of settling. Assumes nothing.
use Rattle.std.specs.Prelude.{◌≡◌, ℕ, ◌+◌, ◌-◌, ◌<◌, ◌≤◌, Bool, true, Some, None}
use Rattle.changeover.specs.Rows.{Lawful}
use Rattle.rules.specs.declared.outcome.Overload.{Overload}
use Rattle.rules.specs.declared.outcome.Cause.{Cause}
use Rattle.rules.specs.Faces.{Face, turned, horizon}
use Rattle.rules.specs.Places.{E}
use Rattle.rules.specs.Rules.{pair_early, detected_early, not_last_late, edge_early, overloaded, goes_on, half_round}
use Rattle.rules.specs.Settling.{Settles, Outcome, all_minutes, settled}
use Rattle.rules.specs.Plans.{Jobs, Limits, Fits, face_of, gap_between, Inside, Separated}

-- the limits of a face: at most 32 jobs of 1 to 100,000 minutes, in windows that are long enough and end by H
pub record Fine (F : Face) : Type 0 where
  pub few : F.n ≤ 32
  pub lasts : (j : ℕ) → j < F.n → (1 ≤ F.duration j) × (F.duration j ≤ 100000)
  pub wide : (j : ℕ) → j < F.n → F.early j + F.duration j ≤ F.late j
  pub closes : (j : ℕ) → j < F.n → F.late j ≤ horizon

-- a plan that is separated by the gaps, inside the windows
abbrev pub Possible : Face → (ℕ → ℕ) → Type 0
Possible F start = Inside F start × Separated F start

-- for every face in its limits and all numbers that keep the law against its gaps
pub record RulesHold (F : Face) (b : ℕ → ℕ) : Type 0 where
  -- where S has a job, E(S) is a time, and in every possible plan some job of S finishes then or later
  pub set_finishes : (S : ℕ → Bool) (a : ℕ) → a < F.n → S a ≡ true → (t : ℕ) × (E F b S ≡ Some t) × ((start : ℕ → ℕ) → Possible F start → (j : ℕ) × (j < F.n) × (S j ≡ true) × (t ≤ start j + F.duration j))
  -- rules 3 to 6 keep every possible plan
  pub pairs_keep : (start : ℕ → ℕ) → Possible F start → (i : ℕ) → i < F.n → pair_early F i ≤ start i
  pub detectable_precedences_keep : (start : ℕ → ℕ) → Possible F start → (i : ℕ) → i < F.n → detected_early F b i ≤ start i
  pub not_last_keeps : (start : ℕ → ℕ) → Possible F start → (i : ℕ) → i < F.n → start i + F.duration i ≤ not_last_late F b i
  pub edge_finding_keeps : (start : ℕ → ℕ) → Possible F start → (i : ℕ) → i < F.n → edge_early F b i ≤ start i
  -- each kind of overload means that there is no possible plan
  pub overload_means_none : (x : Overload) → half_round F b ≡ overloaded x → (start : ℕ → ℕ) → Possible F start → ⊥
  -- a half round that goes on keeps every possible plan, only narrows windows, and leaves them long enough
  pub half_keeps : (G : Face) → half_round F b ≡ goes_on G → (start : ℕ → ℕ) → Possible F start → Possible G start
  pub half_narrows : (G : Face) → half_round F b ≡ goes_on G → (j : ℕ) → j < F.n → (F.early j ≤ G.early j) × (G.late j ≤ F.late j)
  pub half_fine : (G : Face) → half_round F b ≡ goes_on G → Fine G

-- starts, seen with time running backwards: a job starts there where it finishes here
abbrev pub turned_plan : Face → (ℕ → ℕ) → ℕ → ℕ
turned_plan F start j = horizon - (start j + F.duration j)

-- turning keeps limits, plans, separation and the law
pub record TurningHolds (F : Face) : Type 0 where
  pub fine : Fine (turned F)
  pub plan : (start : ℕ → ℕ) → Possible F start → Possible (turned F) (turned_plan F start)
  pub lawful : (b : ℕ → ℕ) → Lawful F.n F.gap b → Lawful F.n (turned F).gap b

-- what settling a job book promises
pub record SettlingHolds (J : Jobs) (b : ℕ → ℕ) (O : Outcome) : Type 0 where
  -- every plan that fits lies inside the held windows
  pub every_plan_inside_held : (start : ℕ → ℕ) → Fits J start → (j : ℕ) → j < J.n → (O.held.early j ≤ start j) × (start j + J.duration j ≤ O.held.late j)
  -- overloaded means that no plan fits
  pub no_plan_when_overloaded : (c : Cause) → O.cause ≡ Some c → (start : ℕ → ℕ) → Fits J start → ⊥
  -- settled with each held window exactly as long as its job means that these starts fit
  pub single_starts_fit : O.cause ≡ None → ((j : ℕ) → j < J.n → O.held.late j ≡ O.held.early j + J.duration j) → Fits J O.held.early
  -- held windows lie inside the posted ones and have room for their jobs
  pub held_inside_posted : (j : ℕ) → j < J.n → (J.early j ≤ O.held.early j) × (O.held.late j ≤ J.late j) × (O.held.early j + J.duration j ≤ O.held.late j)
  -- at most one round more than the minutes cut
  pub rounds_within_minutes_cut : O.rounds ≤ all_minutes (face_of J) - all_minutes O.held + 1
  -- the outcome is one of the relation, and the relation has no other
  pub by_the_rules : Settles b (face_of J) 0 O
  pub no_other : (O' : Outcome) → Settles b (face_of J) 0 O' → O' ≡ O

-- THE THEOREMS: for all faces, job books and numbers
abbrev pub RulesAlwaysHold : Type 0
RulesAlwaysHold = (F : Face) (b : ℕ → ℕ) → Fine F → Lawful F.n F.gap b → RulesHold F b

abbrev pub TurningAlwaysHolds : Type 0
TurningAlwaysHolds = (F : Face) → Fine F → TurningHolds F

abbrev pub SettlingAlwaysHolds : Type 0
SettlingAlwaysHolds = (J : Jobs) (b : ℕ → ℕ) → Limits J → Lawful J.n (gap_between J) b → SettlingHolds J b (settled b (face_of J))
