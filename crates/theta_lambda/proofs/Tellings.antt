-- What the root tells, from the greatest values over the whole row. Assumes nothing.
use Rattle.std.proofs.Common.{◌≡◌, ℕ, ◌+◌, ◌<◌, ◌≤◌, Bool, false, cond, List, length, get_or, is_some, Some, None, Option, sym, refl, ap, ◌∙◌, subst, arith}
use Rattle.std.proofs.lemmas.Bool.{both_ways}
use Rattle.theta_nodes.specs.declared.white.White.{White}
use Rattle.theta_nodes.specs.declared.grey.Grey.{Grey}
use Rattle.theta_nodes.specs.White.{empty_white, white_join}
use Rattle.theta_nodes.specs.Grey.{rank, empty_grey, grey_placed, grey_join}
use Rattle.theta.specs.Tree.{paired, level, grown, row}
use Rattle.theta_nodes.specs.Leaves.{Leaf, InLimits, is_grey, duration, with_white, in_white, in_grey, white_root, grey_tree}
use Rattle.theta_lambda.specs.Tells.{Lowest, Greatest, Tells}
use Rattle.theta_lambda.proofs.Bests.{Best, Counted}
use Rattle.theta.proofs.Grows.{grow, root_is}
use Rattle.theta_lambda.proofs.GreyTrees.{Grown, grey_grown, has_heaviest, lasts_one}

-- times of one rank are the same
same_rank : (x y : Option ℕ) → rank x ≡ rank y → x ≡ y
same_rank None None e = refl
same_rank None (Some c) e = absurd (omega arith)
same_rank (Some a) None e = absurd (omega arith)
same_rank (Some a) (Some c) e = let k : a ≡ c = omega arith in ap (λ n. Some n) k

module _ {X : Type 0} (rank_of : X → ℕ) (one : (x y : X) → rank_of x ≡ rank_of y → x ≡ y) (L : ℕ → Leaf) (f : ℕ → X) (base top : X) where
  abbrev TheBest : Option ℕ → Type 0
  TheBest who = Best 0 32 (λ g. is_grey (L g)) (λ g. rank_of (f g)) (rank_of base) (rank_of top) who

  none_at : (who : Option ℕ) → TheBest who → top ≡ base → who ≡ None
  none_at None best e = refl
  none_at (Some q) best e = absurd (omega (arith, best.by.3, ap rank_of e))

  base_at : (who : Option ℕ) → TheBest who → who ≡ None → top ≡ base
  base_at None best e = one top base best.by
  base_at (Some q) best e = let z : ◌≡◌ {A = ℕ} 0 1 = cc in absurd (omega arith)

  lowest_at : (who : Option ℕ) → TheBest who → (g : ℕ) → who ≡ Some g → Lowest L f top g
  lowest_at None best g e = let z : ◌≡◌ {A = ℕ} 0 1 = cc in absurd (omega arith)
  lowest_at (Some q) best g e =
      let eq : q ≡ g = cc in
      let w = best.by in
      subst (Lowest L f top) eq
      (record { inside = w.1; at_a_grey_leaf = w.2; gives_it = one (f q) top w.4; none_lower = λ h l t k. omega (arith, w.5 h (omega arith) l t, ap rank_of k) })

  greatest : (who : Option ℕ) → TheBest who → Greatest rank_of L f base top who
  greatest who best = record {
    not_below_base = best.low;
    not_below_a_grey = λ g h t. best.all g (omega arith) h t;
    none_where_base = none_at who best;
    base_where_none = base_at who best;
    lowest_that_gives_it = lowest_at who best;
  }

counted_is : (n m : ℕ) (h : Option ℕ) → Counted n m h → m ≡ n + cond (is_some h) 1 0
counted_is n m None c = omega arith
counted_is n m (Some q) c = c

none_without : (G : ℕ → Bool) (f : ℕ → ℕ) (base top : ℕ) (who : Option ℕ) → Best 0 32 G f base top who → ((g : ℕ) → g < 32 → G g ≡ false) → who ≡ None
none_without G f base top None best off = refl
none_without G f base top (Some q) best off = absurd (both_ways (G q) (off q best.by.1) best.by.2)

module _ (b : ℕ → ℕ) (low : (e : ℕ) → b e ≤ 400000) (L : ℕ → Leaf) (ok : (p : ℕ) → p < 32 → InLimits (L p)) where
  root_white : (leaves : ℕ → Leaf) → white_root b leaves ≡ grow (white_join b) (λ q. in_white (leaves q)) 5 0
  unfolding white_root
  root_white leaves = root_is empty_white (white_join b) (λ q. in_white (leaves q))

  tells_grown : (x : Grey) → Grown b low L ok 5 0 x → Tells b L x
  tells_grown x gx =
      let ew : x.white ≡ white_root b L = gx.white_is ∙ sym (root_white L) in
      let F : White → (ℕ → White) → Type 0 = λ w f. Best 0 32 (λ g. is_grey (L g)) (λ g. rank (f g).finish) (rank w.finish) (rank x.grey.finish) x.responsible in
      let dues : Best 0 32 (λ g. is_grey (L g)) (λ g. rank (white_root b (with_white g L)).finish) (rank (white_root b L).finish) (rank x.grey.finish) x.responsible =
      subst (λ w. F w (λ g. white_root b (with_white g L))) ew (subst (F x.white) (λ i g. sym (root_white (with_white g L)) i) gx.dues) in
      let loads : Best 0 32 (λ g. is_grey (L g)) (λ g. (white_root b L).total + duration (L g)) (white_root b L).total x.grey.total x.heaviest =
      subst (λ w. Best 0 32 (λ g. is_grey (L g)) (λ g. w.total + duration (L g)) w.total x.grey.total x.heaviest) ew gx.loads in
      let numbers : Counted (white_root b L).count x.grey.count x.heaviest = subst (λ w. Counted w.count x.grey.count x.heaviest) ew gx.numbers in
      record {
        white_part = ew;
        finish_greatest = greatest rank same_rank L (λ g. (white_root b (with_white g L)).finish) (white_root b L).finish x.grey.finish x.responsible dues;
        total_greatest = greatest (λ n. n) (λ m n e. e) L (λ g. (white_root b L).total + duration (L g)) (white_root b L).total x.grey.total x.heaviest loads;
        heaviest_with_a_grey = λ g h t.
            (has_heaviest b low L ok 0 32 (white_root b L).total x.grey.total (white_root b L).count x.grey.count g (λ q. (white_root b L).total + duration (L q)) x.heaviest loads numbers (omega arith) h t
            (omega (arith, lasts_one b low L ok (L g) (ok g h) t))).1;
        no_heaviest_without = none_without (λ g. is_grey (L g)) (λ g. (white_root b L).total + duration (L g)) (white_root b L).total x.grey.total x.heaviest loads;
        count_is = counted_is (white_root b L).count x.grey.count x.heaviest numbers;
      }

  pub root_tells : (nodes : List Grey) → nodes ≡ grey_tree b L → Tells b L (get_or nodes 0 empty_grey)
  unfolding grey_tree
  root_tells nodes e =
      subst (Tells b L) (sym (ap (λ xs. get_or xs 0 empty_grey) e ∙ root_is empty_grey (grey_join b) (λ q. grey_placed q (in_grey (L q))))) (tells_grown _ (grey_grown b low L ok 5 0 (omega arith)))

-- the tree has 63 nodes
pub tree_size : (b : ℕ → ℕ) (L : ℕ → Leaf) (nodes : List Grey) → nodes ≡ grey_tree b L → length nodes ≡ 63
unfolding grey_tree grown level paired row
tree_size b L nodes e = ap length e
