-- What the calls of a tree of white and grey leaves do to the jobs that it holds, and what its root tells of them. Assumes nothing.
use Rattle.std.proofs.Common.{◌≡◌, ℕ, ◌<◌, ◌≤◌, Bool, true, false, cond, eqb, get_or, Some, None, Option, sym, refl, ap, ◌∙◌, subst, ⊎_elim, arith}
use Rattle.std.proofs.lemmas.Bool.{cond-true, cond-false, cond_both, eq-eqb, ne_eqb, both_ways, cases_Bool, cases_eq}
use Rattle.theta.specs.Tree.{grown}
use Rattle.theta.specs.Runs.{Call, start, puts, greys, drops, then, comes, seat, Begins, Follows}
use Rattle.theta_nodes.specs.declared.grey.Grey.{Grey}
use Rattle.theta_nodes.specs.Grey.{rank as late_rank, empty_grey, white_leaf_in, grey_leaf, turned_grey, grey_placed, grey_join}
use Rattle.theta_nodes.specs.White.{empty_white, white_join}
use Rattle.theta_nodes.specs.Leaves.{nothing_here, white_here, grey_here, InLimits, is_grey, whitened, with_white, in_white, in_grey, white_root, grey_tree}
use Rattle.theta_lambda.specs.Tells.{Tells}
use Rattle.rules.specs.Faces.{Face, earliest_finish}
use Rattle.rules.specs.Places.{place, leaf_of, leaves, E}
use Rattle.rules.specs.Rules.{with_job}
use Rattle.rules.specs.Theorems.{Fine}
use Rattle.rules.proofs.Seats.{at_place, place_below, place_found, place_finds}
use Rattle.face.specs.declared.grey_tree.GreyTree.{GreyTree}
use Rattle.face.specs.Orders.{HasRank}
use Rattle.face.specs.WhiteTrees.{but}
use Rattle.face.specs.GreyTrees.{mixed_leaf, mixed_leaves, HoldsBoth, Apart, TellsJobs}
use Rattle.face.proofs.Ranks.{rank_apart, place_rank}
use Rattle.face.proofs.Rows.{row_same, bare_row, seat_same, seat_step}
use Rattle.face.proofs.Whites.{Same, SameBut, with_others, with_here, but_others, but_here}

module _ (F : Face) (b : ℕ → ℕ) where
  -- the node of the job at a place
  node : (ℕ → Bool) → (ℕ → Bool) → ℕ → Option ℕ → Grey
  node S G p o = grey_placed p (in_grey (mixed_leaf F S G o))

  node_grey : (S G : ℕ → Bool) (p j : ℕ) → G j ≡ true → node S G p (Some j) ≡ grey_placed p (grey_leaf (F.duration j) (earliest_finish F j))
  unfolding node
  node_grey S G p j t = ap (λ x. grey_placed p (in_grey x)) (cond-true (G j) _ _ t)

  node_white : (S G : ℕ → Bool) (p j : ℕ) → G j ≡ false → S j ≡ true → node S G p (Some j) ≡ white_leaf_in (F.duration j) (earliest_finish F j)
  unfolding node
  node_white S G p j f t = ap (λ x. grey_placed p (in_grey x)) (cond-false (G j) _ _ f ∙ cond-true (S j) _ _ t)

  node_out : (S G : ℕ → Bool) (p j : ℕ) → G j ≡ false → S j ≡ false → node S G p (Some j) ≡ empty_grey
  unfolding node
  node_out S G p j f e = ap (λ x. grey_placed p (in_grey x)) (cond-false (G j) _ _ f ∙ cond-false (S j) _ _ e)

  node_same : (S G S' G' : ℕ → Bool) (p k : ℕ) → S' k ≡ S k → G' k ≡ G k → node S' G' p (Some k) ≡ node S G p (Some k)
  unfolding node
  node_same S G S' G' p k e d =
      ap (λ t. grey_placed p (in_grey (cond t (grey_here (F.duration k) (earliest_finish F k)) (cond (S' k) (white_here (F.duration k) (earliest_finish F k)) nothing_here)))) d
      ∙ ap (λ t. grey_placed p (in_grey (cond (G k) (grey_here (F.duration k) (earliest_finish F k)) (cond t (white_here (F.duration k) (earliest_finish F k)) nothing_here)))) e

  -- equal sets
  pub both_same : (S G S' G' : ℕ → Bool) (T : GreyTree) → Same F.n S S' → Same F.n G G' → HoldsBoth F b S G T → HoldsBoth F b S' G' T
  unfolding mixed_leaves node
  both_same S G S' G' T e d h = record {
    run = h.run;
    stands = h.stands;
    leaves_are =
        h.leaves_are
        ∙ sym (row_same (λ p. grey_placed p (in_grey (mixed_leaves F S' G' p))) (λ p. grey_placed p (in_grey (mixed_leaves F S G p))) (seat_same F (node S G) (node S' G') (λ _. refl) (λ p k hk _. node_same S G S' G' p k (e k hk) (d k hk))));
  }

  -- a cleared tree holds no job
  pub both_none : (S G : ℕ → Bool) (T : GreyTree) → ((j : ℕ) → j < F.n → S j ≡ false) → ((j : ℕ) → j < F.n → G j ≡ false) → Begins empty_grey grey_placed turned_grey (grey_join b) T.nodes → HoldsBoth F b S G T
  unfolding mixed_leaves node
  both_none S G T e d begins = record {
    run = start;
    stands = begins;
    leaves_are = bare_row empty_grey (λ p. grey_placed p (in_grey (mixed_leaves F S G p))) (seat_same F (λ _ _. empty_grey) (node S G) (λ _. refl) (λ p k hk _. node_out S G p k (d k hk) (e k hk)));
  }

  -- what is no job makes no difference
  pub both_outside : (S G S' G' : ℕ → Bool) (T : GreyTree) (j : ℕ) → F.n ≤ j → SameBut F.n j S S' → SameBut F.n j G G' → HoldsBoth F b S G T → HoldsBoth F b S' G' T
  both_outside S G S' G' T j out e d h = both_same S G S' G' T (λ k hk. e k hk (λ x. omega arith)) (λ k hk. d k hk (λ x. omega arith)) h

  module _ (few : F.n ≤ 32) where
    -- a call that changes one job's leaf
    both_step : (S G S' G' : ℕ → Bool) (T T' : GreyTree) (c : Call Grey) (j : ℕ) → j < F.n → seat c ≡ place F j → comes empty_grey grey_placed turned_grey c (node S G (place F j) (Some j)) ≡ node S' G' (place F j) (Some j) → SameBut F.n j S S' → SameBut F.n j G G' → Follows empty_grey grey_placed turned_grey (grey_join b) T.nodes T'.nodes c → HoldsBoth F b S G T → HoldsBoth F b S' G' T'
    unfolding mixed_leaves node
    both_step S G S' G' T T' c j hj at becomes e d follows h =
        let s = seat_step F few (node S G) (node S' G') empty_grey grey_placed turned_grey (grey_join b) T.nodes T'.nodes c j hj at becomes (λ _. refl) (λ p k hk ne. node_same S G S' G' p k (e k hk ne) (d k hk ne)) follows h.run h.stands h.leaves_are in
        record { run = then h.run c; stands = s.0; leaves_are = s.1 }

    pub both_enter : (S G : ℕ → Bool) (T T' : GreyTree) (j : ℕ) → j < F.n → Follows empty_grey grey_placed turned_grey (grey_join b) T.nodes T'.nodes (puts (place F j) (white_leaf_in (F.duration j) (earliest_finish F j))) → HoldsBoth F b S G T → HoldsBoth F b (with_job j S) (but j G) T'
    both_enter S G T T' j hj follows h =
        both_step S G (with_job j S) (but j G) T T' (puts (place F j) (white_leaf_in (F.duration j) (earliest_finish F j))) j hj refl (sym (node_white (with_job j S) (but j G) (place F j) j (but_here j G) (with_here j S))) (with_others F.n j S) (but_others F.n j G) follows h

    pub both_remove : (S G : ℕ → Bool) (T T' : GreyTree) (j p : ℕ) → j < F.n → p ≡ place F j → Follows empty_grey grey_placed turned_grey (grey_join b) T.nodes T'.nodes (drops p) → HoldsBoth F b S G T → HoldsBoth F b (but j S) (but j G) T'
    both_remove S G T T' j p hj at follows h =
        both_step S G (but j S) (but j G) T T' (drops p) j hj at (sym (node_out (but j S) (but j G) (place F j) j (but_here j G) (but_here j S))) (but_others F.n j S) (but_others F.n j G) follows h

    -- a white leaf or a grey one, turned grey
    greyed : (S G : ℕ → Bool) (p j : ℕ) → S j ≡ true → grey_placed p (turned_grey (node S G p (Some j))) ≡ grey_placed p (grey_leaf (F.duration j) (earliest_finish F j))
    greyed S G p j t =
        ⊎_elim (λ g. ap (λ x. grey_placed p (turned_grey x)) (node_grey S G p j g)) (λ g. ap (λ x. grey_placed p (turned_grey x)) (node_white S G p j g t)) (cases_Bool (G j))

    pub both_grey : (S G : ℕ → Bool) (T T' : GreyTree) (j p : ℕ) → j < F.n → p ≡ place F j → S j ≡ true → Follows empty_grey grey_placed turned_grey (grey_join b) T.nodes T'.nodes (greys p) → HoldsBoth F b S G T → HoldsBoth F b (but j S) (with_job j G) T'
    both_grey S G T T' j p hj at t follows h =
        both_step S G (but j S) (with_job j G) T T' (greys p) j hj at
        (ap (λ q. grey_placed q (turned_grey (node S G (place F j) (Some j)))) at ∙ greyed S G (place F j) j t ∙ sym (node_grey (but j S) (with_job j G) (place F j) j (with_here j G)))
        (but_others F.n j S) (with_others F.n j G) follows h

  -- the nodes are the tree of the leaves
  pub both_tree : (S G : ℕ → Bool) (T : GreyTree) → HoldsBoth F b S G T → T.nodes ≡ grey_tree b (mixed_leaves F S G)
  unfolding grey_tree
  both_tree S G T h = h.stands.afresh ∙ ap (grown (grey_join b)) h.leaves_are

  module _ (S G : ℕ → Bool) (apart : Apart F S G) where
    -- the white part of one job's leaf
    white_part : (k : ℕ) → k < F.n → in_white (mixed_leaf F S G (Some k)) ≡ in_white (leaf_of F S (Some k))
    white_part k hk =
        ⊎_elim
        (λ g. ap in_white (cond-true (G k) _ _ g) ∙ sym (ap in_white (cond-false (S k) _ _ (apart k hk g))))
        (λ g. ap in_white (cond-false (G k) _ _ g))
        (cases_Bool (G k))

    mixed_white : (white_root b (mixed_leaves F S G)).finish ≡ E F b S
    unfolding E white_root mixed_leaves leaves
    mixed_white =
        ap (λ xs. (get_or (grown (white_join b) xs) 0 empty_white).finish)
        (row_same (λ p. in_white (mixed_leaves F S G p)) (λ p. in_white (leaves F S p)) (seat_same F (λ p o. in_white (leaf_of F S o)) (λ p o. in_white (mixed_leaf F S G o)) (λ _. refl) (λ p k hk _. white_part k hk)))

    -- the leaves with one grey job made white
    whitened_leaf : (i p k : ℕ) → i < F.n → G i ≡ true → k < F.n → place F k ≡ p → in_white (cond (eqb p (place F i)) (whitened (mixed_leaf F S G (Some k))) (mixed_leaf F S G (Some k))) ≡ in_white (leaf_of F (with_job i S) (Some k))
    whitened_leaf i p k hi g hk at =
        ⊎_elim
        (λ e.
        let here : eqb p (place F i) ≡ true = eq-eqb p (place F i) (sym at ∙ ap (place F) e) in
        let grey : G k ≡ true = ap G e ∙ g in
        let white : with_job i S k ≡ true = ap (with_job i S) e ∙ with_here i S in
        ap in_white (cond-true (eqb p (place F i)) _ _ here)
        ∙ ap (λ x. in_white (whitened x)) (cond-true (G k) _ _ grey)
        ∙ sym (ap in_white (cond-true (with_job i S k) _ _ white)))
        (λ d.
        let elsewhere : eqb p (place F i) ≡ false =
        ne_eqb p (place F i) (λ e. rank_apart F.early F.n k i hk hi d (sym (place_rank F k) ∙ at ∙ e ∙ place_rank F i)) in
        ap in_white (cond-false (eqb p (place F i)) _ _ elsewhere)
        ∙ white_part k hk
        ∙ ap (λ t. in_white (cond t (white_here (F.duration k) (earliest_finish F k)) nothing_here)) (sym (with_others F.n i S k hk d)))
        (cases_eq k i)

    mixed_with : (i : ℕ) → i < F.n → G i ≡ true → (white_root b (with_white (place F i) (mixed_leaves F S G))).finish ≡ E F b (with_job i S)
    unfolding E white_root mixed_leaves leaves
    mixed_with i hi g =
        ap (λ xs. (get_or (grown (white_join b) xs) 0 empty_white).finish)
        (row_same (λ p. in_white (with_white (place F i) (mixed_leaves F S G) p)) (λ p. in_white (leaves F (with_job i S) p))
        (seat_same F (λ p o. in_white (leaf_of F (with_job i S) o)) (λ p o. in_white (cond (eqb p (place F i)) (whitened (mixed_leaf F S G o)) (mixed_leaf F S G o)))
        (λ p. cond_both (eqb p (place F i)) nothing_here nothing_here (λ x. in_white x ≡ empty_white) (λ _. refl) (λ _. refl))
        (λ p k hk at. whitened_leaf i p k hi g hk at)))

  -- what the root tells
  module _ (ok : Fine F) (S G : ℕ → Bool) where
    pub limits : (p : ℕ) → InLimits (mixed_leaves F S G p)
    unfolding mixed_leaves
    limits p = each (at_place F p) refl
      where
        each : (o : Option ℕ) → at_place F p ≡ o → InLimits (mixed_leaf F S G o)
        each None e = tt
        each (Some k) e =
            let w = (place_found F p k e).0 in
            let in_limits : (1 ≤ F.duration k) × (F.duration k ≤ 100000) × (earliest_finish F k ≤ 1000000) = ((ok.lasts k w).0, (ok.lasts k w).1, omega (arith, ok.wide k w, ok.closes k w)) in
            cond_both (G k) _ _ InLimits (λ _. in_limits) (λ _. cond_both (S k) _ _ InLimits (λ _. in_limits) (λ _. tt))

    -- a grey job's leaf is grey
    grey_at : (i : ℕ) → i < F.n → G i ≡ true → is_grey (mixed_leaves F S G (place F i)) ≡ true
    unfolding mixed_leaves
    grey_at i hi g = ap (λ o. is_grey (mixed_leaf F S G o)) (place_finds F (place F i) i hi refl) ∙ ap is_grey (cond-true (G i) _ _ g)

    -- and only a grey job's leaf is
    grey_from : (p : ℕ) → is_grey (mixed_leaves F S G p) ≡ true → (k : ℕ) × (k < F.n) × (place F k ≡ p) × (G k ≡ true)
    unfolding mixed_leaves
    grey_from p t = each (at_place F p) refl
      where
        each : (o : Option ℕ) → at_place F p ≡ o → (k : ℕ) × (k < F.n) × (place F k ≡ p) × (G k ≡ true)
        each None e = let f : is_grey (mixed_leaf F S G (at_place F p)) ≡ false = ap (λ o. is_grey (mixed_leaf F S G o)) e in absurd (both_ways _ f t)
        each (Some k) e =
            let w = place_found F p k e in
            let was : is_grey (mixed_leaf F S G (Some k)) ≡ true = sym (ap (λ o. is_grey (mixed_leaf F S G o)) e) ∙ t in
            ⊎_elim (λ g. (k, w.0, w.1, g))
            (λ g.
            let white : is_grey (mixed_leaf F S G (Some k)) ≡ false = ap is_grey (cond-false (G k) _ _ g) ∙ cond_both (S k) (white_here (F.duration k) (earliest_finish F k)) nothing_here (λ x. is_grey x ≡ false) (λ _. refl) (λ _. refl) in
            absurd (both_ways _ white was))
            (cases_Bool (G k))

    module _ (apart : Apart F S G) (x : Grey) (tells : Tells b (mixed_leaves F S G) x) where
      pub tells_white : x.white.finish ≡ E F b S
      tells_white = ap (λ w. w.finish) tells.white_part ∙ mixed_white S G apart

      tells_all : (i : ℕ) → i < F.n → G i ≡ true → late_rank (E F b (with_job i S)) ≤ late_rank x.grey.finish
      tells_all i hi g =
          subst (λ e. late_rank e ≤ late_rank x.grey.finish) (mixed_with S G apart i hi g)
          (tells.finish_greatest.not_below_a_grey (place F i) (omega (arith, place_below F i hi, ok.few)) (grey_at i hi g))

      pub tells_none : x.responsible ≡ None → TellsJobs F b S G x.grey.finish None
      tells_none e = record { all = tells_all; blames = tells.finish_greatest.base_where_none e ∙ mixed_white S G apart }

      pub tells_some : (p r : ℕ) → x.responsible ≡ Some p → (p < F.n → HasRank F.n F.early p r) → TellsJobs F b S G x.grey.finish (Some r)
      tells_some p r e has =
          let lowest = tells.finish_greatest.lowest_that_gives_it p e in
          let w = grey_from p lowest.at_a_grey_leaf in
          let h = has (omega (arith, place_below F w.0 w.1, w.2)) in
          let same : r ≡ w.0 = ⊎_elim (λ q. q) (λ d. absurd (rank_apart F.early F.n r w.0 h.0 w.1 d (h.1 ∙ sym w.2 ∙ place_rank F w.0))) (cases_eq r w.0) in
          let gives : (white_root b (with_white (place F w.0) (mixed_leaves F S G))).finish ≡ x.grey.finish = ap (λ q. (white_root b (with_white q (mixed_leaves F S G))).finish) w.2 ∙ lowest.gives_it in
          record {
            all = tells_all;
            blames = (h.0, ap G same ∙ w.3, ap (λ k. E F b (with_job k S)) same ∙ sym (mixed_with S G apart w.0 w.1 w.3) ∙ gives);
          }
