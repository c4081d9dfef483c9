-- The walks, one gap longer at a time, and the numbers that they give. Assumes nothing.
use Rattle.std.specs.Prelude.{◌==◌, nat_lt}
use Rattle.std.proofs.Common.{◌≡◌, ℕ, ◌+◌, ◌<◌, ◌≤◌, cond, List, ◌++◌, drop, length, get_or, replicate, ap, ◌∙◌, add-one, arith}
use Rattle.std.proofs.lemmas.Bool.{cond_both, ltb-true, ltb-false}
use Rattle.std.proofs.lemmas.List.{get_or_append_left}
use Rattle.changeover.specs.Kinds.{least, but, walk, shortest_walk}
use Rattle.changeover.specs.Leasts.{least_under}
use Rattle.changeover.specs.Laws.{below_small}
use Rattle.changeover.proofs.Leasts.{least_top, least_same}
use Rattle.changeover.proofs.Places.{zero_past}

module _ (n : ℕ) (gap : ℕ → ℕ → ℕ) where
  pub shortest_first : shortest_walk n gap 0 ≡ 0
  shortest_first =
      let u = below_small n 0 (least 400000 n (walk n gap 0)) 0 (λ h. least_under 400000 n (walk n gap 0) 0 h) in
      omega arith

  pub shortest_small : (e : ℕ) → shortest_walk n gap e ≤ 400000
  shortest_small e = below_small n e _ _ (λ _. least_top 400000 n (walk n gap e))

  -- one gap more
  pub walk_more : (e j : ℕ) (w : ℕ → ℕ) → ((i : ℕ) → i < n → w i ≡ walk n gap e i) → least 400000 n (but 400000 j (λ i. w i + gap i j)) ≡ walk n gap (e + 1) j
  walk_more e j w same =
      rw add-one (least_same 400000 n _ _ (λ i h. ap (λ (x : ℕ). cond (i == j) 400000 (x + gap i j)) (same i h)))

  -- the places, once all are written
  pub shortest_all : (b : ℕ → ℕ) (e : ℕ) → e ≡ n → ((k : ℕ) → k < e → b k ≡ least 400000 n (walk n gap k)) → ((k : ℕ) → e ≤ k → b k ≡ 0) → (k : ℕ) → b k ≡ shortest_walk n gap k
  shortest_all b e same below past k =
      cond_both (nat_lt k n) _ _ (λ (y : ℕ). b k ≡ y)
      (λ t. let lt = ltb-true k n t in below k (omega arith))
      (λ f. let le = ltb-false k n f in past k (omega arith))

  -- and zeros after those of the n jobs
  pub shortest_then_zeros : (xs : List ℕ) (m : ℕ) → m ≡ n → length xs ≡ n → ((k : ℕ) → k < n → get_or xs k 0 ≡ least 400000 n (walk n gap k)) → (k : ℕ) → get_or (xs ++ drop m (replicate 32 0)) k 0 ≡ shortest_walk n gap k
  shortest_then_zeros xs m same long written =
      shortest_all (λ k. get_or (xs ++ drop m (replicate 32 0)) k 0) m same
      (λ k h. get_or_append_left xs _ 0 k (omega arith) ∙ written k (omega arith))
      (λ k h. zero_past xs 32 m k (omega arith) h)
