-- Runs of calls on a tree. Assumes nothing.
use Rattle.std.specs.Prelude.{◌≡◌, ℕ, ◌+◌, List, replicate, slice_index_or, slice_set}
use Rattle.theta.specs.Tree.{stepped, cleared, grown}

-- a call at a place: a leaf put there, turned grey, dropped, lifted or set back
pub data Call (N : Type 0) : Type 0 where
  puts : ℕ → N → Call N
  greys : ℕ → Call N
  drops : ℕ → Call N
  lifts : ℕ → Call N
  sets_back : ℕ → N → Call N

-- calls one after another on a cleared tree
pub data Run (N : Type 0) : Type 0 where
  start : Run N
  then : Run N → Call N → Run N

-- 32 empty leaves
unfoldable pub bare : {N : Type 0} → N → List N
bare none = replicate 32 none

-- what stands at a place after a call, where a leaf x stood there before
abbrev pub comes : {N : Type 0} → N → (ℕ → N → N) → (N → N) → Call N → N → N
comes none placed turned (puts p y) x = placed p y
comes none placed turned (greys p) x = placed p (turned x)
comes none placed turned (drops p) x = none
comes none placed turned (lifts p) x = none
comes none placed turned (sets_back p y) x = y

-- the place of a call
abbrev pub seat : {N : Type 0} → Call N → ℕ
seat (puts p y) = p
seat (greys p) = p
seat (drops p) = p
seat (lifts p) = p
seat (sets_back p y) = p

module _ {N : Type 0} (none : N) (placed : ℕ → N → N) (turned : N → N) (join : N → N → N) where
  -- the nodes after a run
  abbrev pub tree_after : Run N → List N
  tree_after start = cleared none
  tree_after (then run c) = stepped none join (tree_after run) (seat c) (comes none placed turned c (slice_index_or (tree_after run) (31 + seat c) none))

  -- the leaves that a run leaves
  abbrev pub leaves_after : Run N → List N
  leaves_after start = bare none
  leaves_after (then run c) = slice_set (leaves_after run) (seat c) (comes none placed turned c (slice_index_or (leaves_after run) (seat c) none))

  -- the nodes are those after a run, and the tree worked out afresh from the leaves that it leaves
  pub record Stands (nodes : List N) (run : Run N) : Type 0 where
    pub stepwise : nodes ≡ tree_after run
    pub afresh : nodes ≡ grown join (leaves_after run)

  -- the nodes of a cleared tree
  abbrev pub Begins : List N → Type 0
  Begins nodes = Stands nodes start

  -- a call takes the nodes after any run to those after the run with the call
  pub record Follows (before after : List N) (c : Call N) : Type 0 where
    pub after_any_run : (run : Run N) → before ≡ tree_after run → Stands after (then run c)
