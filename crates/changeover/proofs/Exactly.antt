-- The numbers are what the rules say: a value in the place of "no candidate" never shows. Assumes nothing.
use Rattle.std.proofs.Common.{◌≡◌, ℕ, zero, suc, ◌+◌, ◌*◌, ◌<◌, ◌≤◌, ◌≢◌, sym, refl, ◌∙◌, ⊎_elim, add-one, arith}
use Rattle.std.proofs.lemmas.Bool.{cases_eq, cond-true, lt-ltb}
use Rattle.changeover.specs.Kinds.{least, but, least_gap, multiples, walk, shortest_walk}
use Rattle.changeover.specs.Rules.{LeastGapOf, LeastGapRule, LeastOver, ShortestWalkRule}
use Rattle.changeover.specs.Leasts.{least_under, but_other}
use Rattle.changeover.proofs.Leasts.{least_one_of, but_same}
use Rattle.changeover.specs.Laws.{least_gap_under, walk_step}

module _ (n : ℕ) (gap : ℕ → ℕ → ℕ) (few : n ≤ 32) (small : (i j : ℕ) → gap i j ≤ 12000) where
  -- a gap of 12,000 is no more than the one from the first job to the second
  least_at_top : 2 ≤ n → least_gap n gap ≡ 12000 → least_gap n gap ≡ gap 0 1
  least_at_top two top =
      omega (arith, small 0 1, least_gap_under n gap 0 1 (omega arith) (omega arith) (λ e. absurd (omega arith)))

  least_gap_of : 2 ≤ n → LeastGapOf n gap (least_gap n gap)
  least_gap_of two =
      let row : ℕ → ℕ = λ i. least 12000 n (but 12000 i (gap i)) in
      let ends : least_gap n gap ≡ 12000 → (i : ℕ) × (j : ℕ) × (i < n) × (j < n) × (i ≢ j) × (least_gap n gap ≡ gap i j) =
      λ top. (0, 1, omega arith, omega arith, (λ e. absurd (omega arith)), least_at_top two top) in
      record {
        no_less = least_gap_under n gap;
        one_is =
            ⊎_elim ends
            (λ p.
            let i = p.0 in
            ⊎_elim
            (λ top. ends (p.1.1 ∙ top))
            (λ q.
            let j = q.0 in
            ⊎_elim
            (λ same. ends (p.1.1 ∙ q.1.1 ∙ but_same 12000 i (gap i) j same))
            (λ ne. (i, j, p.1.0, q.1.0, (λ e. ne (sym e)), p.1.1 ∙ q.1.1 ∙ but_other 12000 i (gap i) j ne))
            (cases_eq j i))
            (least_one_of 12000 n (but 12000 i (gap i))))
            (least_one_of 12000 n row);
      }

  pub least_gap_rule : LeastGapRule n gap (multiples n (least_gap n gap))
  least_gap_rule = record {
    step = least_gap n gap;
    least = least_gap_of;
    numbers = λ e h. cond-true _ _ _ (lt-ltb e n h);
  }

  -- with two jobs or more there is always a job to come from
  walk_small : 2 ≤ n → (e j : ℕ) → walk n gap e j ≤ 12000 * e
  walk_small two zero j = omega arith
  walk_small two (suc e) j =
      ⊎_elim
      (λ z. let ne : 1 ≢ j = λ q. absurd (omega arith) in omega (arith, walk_step n gap e 1 j (omega arith) ne, walk_small two e 1, small 1 j))
      (λ nz. let ne : 0 ≢ j = λ q. nz (sym q) in omega (arith, walk_step n gap e 0 j (omega arith) ne, walk_small two e 0, small 0 j))
      (cases_eq j 0)

  walk_longer : (e j : ℕ) → suc e < n → LeastOver n (λ i. i ≢ j) (λ i. walk n gap e i + gap i j) (walk n gap (suc e) j)
  walk_longer e j h =
      let f : ℕ → ℕ = λ i. walk n gap e i + gap i j in
      let under : walk n gap (suc e) j ≤ 12000 * suc e = walk_small (omega arith) (suc e) j in
      record {
        no_less = λ i lt ne. walk_step n gap e i j lt ne;
        one_is =
            ⊎_elim
            (λ top. absurd (omega arith))
            (λ p.
            ⊎_elim
            (λ same. absurd (omega (arith, p.1.1, but_same 400000 j f p.0 same)))
            (λ ne. (p.0, p.1.0, ne, p.1.1 ∙ but_other 400000 j f p.0 ne))
            (cases_eq p.0 j))
            (least_one_of 400000 n (but 400000 j f));
      }

  -- the first number is 0, and past it there are two jobs
  walk_below_top : (e : ℕ) → e < n → walk n gap e 0 < 400000
  walk_below_top zero h = omega arith
  walk_below_top (suc e) h = omega (arith, walk_small (omega arith) (suc e) 0)

  walk_number : (e : ℕ) → e < n → LeastOver n (λ _. Unit {0}) (walk n gap e) (shortest_walk n gap e)
  walk_number e h =
      let is : shortest_walk n gap e ≡ least 400000 n (walk n gap e) = cond-true _ _ _ (lt-ltb e n h) in
      record {
        no_less = λ i lt _. omega (arith, is, least_under 400000 n (walk n gap e) i lt);
        one_is =
            ⊎_elim
            (λ top. absurd (omega (arith, least_under 400000 n (walk n gap e) 0 (omega arith), walk_below_top e h)))
            (λ p. (p.0, p.1.0, tt, is ∙ p.1.1))
            (least_one_of 400000 n (walk n gap e));
      }

  pub shortest_walk_rule : ShortestWalkRule n gap (shortest_walk n gap)
  shortest_walk_rule = record {
    w = walk n gap;
    start = λ j. refl;
    longer = λ e j h _. rw add-one (walk_longer e j (omega arith));
    numbers = walk_number;
  }
