-- What the calls of a tree of white leaves do to the jobs that it holds. Assumes nothing.
use Rattle.std.proofs.Common.{◌≡◌, ℕ, zero, suc, ◌+◌, ◌^◌, ◌<◌, ◌≤◌, Bool, true, false, cond, not, ◌&&◌, ◌||◌, eqb, ◌≢◌, get_or, Some, None, Ok, Option, Result, sym, refl, ap, ◌∙◌, subst, arith}
use Rattle.std.proofs.lemmas.Bool.{cond-true, cond-false, cond_both, eq-eqb, ne_eqb, or_left}
use Rattle.theta.specs.declared.refusals.TreeRefusal.{TreeRefusal}
use Rattle.theta.specs.Refusals.{seated}
use Rattle.theta.specs.Tree.{grown}
use Rattle.theta.specs.Runs.{Call, start, puts, lifts, sets_back, then, comes, seat, Begins, Follows}
use Rattle.theta.proofs.Grows.{grow, root_is}
use Rattle.theta_nodes.specs.declared.white.White.{White}
use Rattle.theta_nodes.specs.White.{Timed, later, after, empty_white, white_leaf, white_join}
use Rattle.theta_nodes.specs.Leaves.{nothing_here, white_here, in_white, white_root}
use Rattle.rules.specs.Faces.{Face, earliest_finish}
use Rattle.rules.specs.Places.{place, leaf_of, leaves, E}
use Rattle.rules.specs.Rules.{with_job}
use Rattle.rules.specs.Theorems.{Fine}
use Rattle.rules.proofs.Seats.{at_place, place_below, place_finds, place_found}
use Rattle.face.specs.declared.white_tree.WhiteTree.{WhiteTree}
use Rattle.face.specs.WhiteTrees.{Holds, but}
use Rattle.face.proofs.Rows.{row_same, grown_leaf, bare_row, seat_same, seat_step}

-- the same sets but for one job
abbrev pub SameBut : ℕ → ℕ → (ℕ → Bool) → (ℕ → Bool) → Type 0
SameBut n j S S' = (k : ℕ) → k < n → k ≢ j → S' k ≡ S k

-- the same sets
abbrev pub Same : ℕ → (ℕ → Bool) → (ℕ → Bool) → Type 0
Same n S S' = (k : ℕ) → k < n → S' k ≡ S k

pub with_others : (n j : ℕ) (S : ℕ → Bool) → SameBut n j S (with_job j S)
unfolding with_job
with_others n j S k hk d = ap (λ t. t || S k) (ne_eqb k j d)

pub with_here : (j : ℕ) (S : ℕ → Bool) → with_job j S j ≡ true
unfolding with_job
with_here j S = or_left (eqb j j) (S j) (eq-eqb j j refl)

pub but_others : (n i : ℕ) (S : ℕ → Bool) → SameBut n i S (but i S)
but_others n i S k hk d = ap (λ t. not t && S k) (ne_eqb k i d)

pub but_here : (i : ℕ) (S : ℕ → Bool) → but i S i ≡ false
but_here i S = ap (λ t. not t && S i) (eq-eqb i i refl)

-- what a lift that is answered lifted
pub lift_read : (many p q w : ℕ) (x y : White) → ◌≡◌ {A = Result (ℕ × White × ℕ) TreeRefusal} (Ok (q, x, w)) (seated many p (p, y, 6)) → (q ≡ p) × (x ≡ y)
lift_read many p q w x y e = ((grind arith), (grind arith))

module _ (F : Face) (b : ℕ → ℕ) where
  -- the node of the job at a place
  node : (ℕ → Bool) → ℕ → Option ℕ → White
  node S p o = in_white (leaf_of F S o)

  node_in : (S : ℕ → Bool) (p j : ℕ) → S j ≡ true → node S p (Some j) ≡ white_leaf (F.duration j) (earliest_finish F j)
  unfolding node
  node_in S p j t = ap in_white (cond-true (S j) (white_here (F.duration j) (earliest_finish F j)) nothing_here t)

  node_out : (S : ℕ → Bool) (p j : ℕ) → S j ≡ false → node S p (Some j) ≡ empty_white
  unfolding node
  node_out S p j f = ap in_white (cond-false (S j) (white_here (F.duration j) (earliest_finish F j)) nothing_here f)

  node_same : (S S' : ℕ → Bool) (p k : ℕ) → S' k ≡ S k → node S' p (Some k) ≡ node S p (Some k)
  unfolding node
  node_same S S' p k e = ap (λ t. in_white (cond t (white_here (F.duration k) (earliest_finish F k)) nothing_here)) e

  leaves_node : (S : ℕ → Bool) (p : ℕ) → in_white (leaves F S p) ≡ node S p (at_place F p)
  unfolding leaves node
  leaves_node S p = refl

  -- equal sets have equal leaves
  leaves_same : (S S' : ℕ → Bool) → Same F.n S S' → (p : ℕ) → in_white (leaves F S' p) ≡ in_white (leaves F S p)
  unfolding leaves node
  leaves_same S S' e = seat_same F (node S) (node S') (λ _. refl) (λ p k hk _. node_same S S' p k (e k hk))

  pub E_same : (S S' : ℕ → Bool) → Same F.n S S' → E F b S' ≡ E F b S
  unfolding E white_root
  E_same S S' e = ap (λ xs. (get_or (grown (white_join b) xs) 0 empty_white).finish) (row_same (λ p. in_white (leaves F S' p)) (λ p. in_white (leaves F S p)) (leaves_same S S' e))

  pub holds_same : (S S' : ℕ → Bool) (T : WhiteTree) → Same F.n S S' → Holds F b S T → Holds F b S' T
  holds_same S S' T e h = record {
    run = h.run;
    stands = h.stands;
    leaves_are = h.leaves_are ∙ sym (row_same (λ p. in_white (leaves F S' p)) (λ p. in_white (leaves F S p)) (leaves_same S S' e));
  }

  -- a cleared tree holds no job
  pub holds_none : (S : ℕ → Bool) (T : WhiteTree) → ((j : ℕ) → j < F.n → S j ≡ false) → Begins empty_white (λ _ x. x) (λ x. x) (white_join b) T.nodes → Holds F b S T
  unfolding leaves node
  holds_none S T e begins = record {
    run = start;
    stands = begins;
    leaves_are = bare_row empty_white (λ p. in_white (leaves F S p)) (seat_same F (λ _ _. empty_white) (node S) (λ _. refl) (λ p k hk _. node_out S p k (e k hk)));
  }

  module _ (few : F.n ≤ 32) where
    -- a call that changes one job's leaf
    holds_step : (S S' : ℕ → Bool) (T T' : WhiteTree) (c : Call White) (j : ℕ) → j < F.n → seat c ≡ place F j → comes empty_white (λ _ x. x) (λ x. x) c (node S (place F j) (Some j)) ≡ node S' (place F j) (Some j) → SameBut F.n j S S' → Follows empty_white (λ _ x. x) (λ x. x) (white_join b) T.nodes T'.nodes c → Holds F b S T → Holds F b S' T'
    unfolding leaves node
    holds_step S S' T T' c j hj at becomes e follows h =
        let s = seat_step F few (node S) (node S') empty_white (λ _ x. x) (λ x. x) (white_join b) T.nodes T'.nodes c j hj at becomes (λ _. refl) (λ p k hk d. node_same S S' p k (e k hk d)) follows h.run h.stands h.leaves_are in
        record { run = then h.run c; stands = s.0; leaves_are = s.1 }

    pub holds_enter : (S : ℕ → Bool) (T T' : WhiteTree) (j : ℕ) → j < F.n → Follows empty_white (λ _ x. x) (λ x. x) (white_join b) T.nodes T'.nodes (puts (place F j) (white_leaf (F.duration j) (earliest_finish F j))) → Holds F b S T → Holds F b (with_job j S) T'
    holds_enter S T T' j hj follows h =
        holds_step S (with_job j S) T T' (puts (place F j) (white_leaf (F.duration j) (earliest_finish F j))) j hj refl (sym (node_in (with_job j S) (place F j) j (with_here j S))) (with_others F.n j S) follows h

    pub holds_lifted : (S : ℕ → Bool) (T T' : WhiteTree) (i p : ℕ) → i < F.n → p ≡ place F i → Follows empty_white (λ _ x. x) (λ x. x) (white_join b) T.nodes T'.nodes (lifts p) → Holds F b S T → Holds F b (but i S) T'
    holds_lifted S T T' i p hi at follows h =
        holds_step S (but i S) T T' (lifts p) i hi at (sym (node_out (but i S) (place F i) i (but_here i S))) (but_others F.n i S) follows h

    -- the leaf of a job
    leaf_there : (S : ℕ → Bool) (T : WhiteTree) (i p : ℕ) → i < F.n → p ≡ place F i → Holds F b S T → get_or T.nodes (31 + p) empty_white ≡ node S (place F i) (Some i)
    leaf_there S T i p hi at h =
        ap (λ q. get_or T.nodes (31 + q) empty_white) at
        ∙ ap (λ xs. get_or xs (31 + place F i) empty_white) (h.stands.afresh ∙ ap (grown (white_join b)) h.leaves_are)
        ∙ grown_leaf (white_join b) (λ q. in_white (leaves F S q)) (place F i) empty_white (omega (arith, place_below F i hi))
        ∙ leaves_node S (place F i)
        ∙ ap (node S (place F i)) (place_finds F (place F i) i hi refl)

    pub holds_back : (S : ℕ → Bool) (T T₁ T₂ : WhiteTree) (i p p' : ℕ) (x : White) → i < F.n → p ≡ place F i → p' ≡ p → x ≡ get_or T.nodes (31 + p) empty_white → Follows empty_white (λ _ x. x) (λ x. x) (white_join b) T₁.nodes T₂.nodes (sets_back p' x) → Holds F b S T → Holds F b (but i S) T₁ → Holds F b S T₂
    holds_back S T T₁ T₂ i p p' x hi at same is follows h h₁ =
        holds_step (but i S) S T₁ T₂ (sets_back p' x) i hi (same ∙ at) (is ∙ leaf_there S T i p hi at h) (λ k hk d. sym (but_others F.n i S k hk d)) follows h₁

    -- what is no job makes no difference
    pub holds_outside : (S : ℕ → Bool) (T : WhiteTree) (j : ℕ) → F.n ≤ j → Holds F b S T → Holds F b (with_job j S) T
    holds_outside S T j out h = holds_same S (with_job j S) T (λ k hk. with_others F.n j S k hk (λ e. omega arith)) h

    pub E_outside : (S : ℕ → Bool) (i : ℕ) → F.n ≤ i → E F b (but i S) ≡ E F b S
    E_outside S i out = E_same S (but i S) (λ k hk. but_others F.n i S k hk (λ e. omega arith))

  -- the root's finish
  pub holds_finish : (S : ℕ → Bool) (T : WhiteTree) → Holds F b S T → (get_or T.nodes 0 empty_white).finish ≡ E F b S
  unfolding E white_root
  holds_finish S T h = ap (λ xs. (get_or xs 0 empty_white).finish) (h.stands.afresh ∙ ap (grown (white_join b)) h.leaves_are)

  -- a finish is at most 1,000,000,000
  joined_timed : (l r : White) → Timed r.finish → Timed (white_join b l r).finish
  unfolding white_join
  joined_timed l r h = one l.finish r.finish h
    where
      one : (x y : Option ℕ) → Timed y → Timed (later y (after x (r.total + b r.count)))
      one None None t = tt
      one None (Some y) t = t
      one (Some x) None t = omega arith
      one (Some x) (Some y) t = omega arith

  module _ (ok : Fine F) (S : ℕ → Bool) where
    leaf_timed : (p : ℕ) → Timed (in_white (leaves F S p)).finish
    unfolding leaves
    leaf_timed p = each (at_place F p) refl
      where
        each : (o : Option ℕ) → at_place F p ≡ o → Timed (in_white (leaf_of F S o)).finish
        each None e = tt
        each (Some k) e =
            let w = place_found F p k e in
            cond_both (S k) (white_here (F.duration k) (earliest_finish F k)) nothing_here (λ x. Timed (in_white x).finish) (λ _. omega (arith, ok.wide k w.0, ok.closes k w.0)) (λ _. tt)

    grow_timed : (k p : ℕ) → Timed (grow (white_join b) (λ q. in_white (leaves F S q)) k p).finish
    unfolding grow
    grow_timed zero p = leaf_timed p
    grow_timed (suc k) p = joined_timed (grow (white_join b) (λ q. in_white (leaves F S q)) k p) (grow (white_join b) (λ q. in_white (leaves F S q)) k (p + 2 ^ k)) (grow_timed k (p + 2 ^ k))

    pub E_timed : Timed (E F b S)
    unfolding E white_root
    E_timed = subst (λ x. Timed x.finish) (sym (root_is empty_white (white_join b) (λ q. in_white (leaves F S q)))) (grow_timed 5 0)
