use Rattle.std.proofs.Common.{◌≡◌, List, length, get_or, Ok, Result, ◌∙◌}
use Rattle.std.proofs.lemmas.Bool.{cond-true, eq-eqb}
use Rattle.theta_nodes.specs.declared.grey.Grey.{Grey}
use Rattle.theta.specs.declared.refusals.TreeRefusal.{TreeRefusal}
use Rattle.theta.specs.Refusals.{sized}
use Rattle.theta_nodes.specs.Grey.{empty_grey}
use Rattle.theta_lambda.proofs.Tellings.{root_tells, tree_size}
use Rattle.theta_lambda.proofs.grey_root.Goals as goal

-- 63 nodes are answered by their root
answered : (nodes : List Grey) (r : Result Grey TreeRefusal) → length nodes ≡ 63 → r ≡ sized (length nodes) (get_or nodes 0 empty_grey) → r ≡ Ok (get_or nodes 0 empty_grey)
answered nodes r size e = e ∙ cond-true _ _ _ (eq-eqb (length nodes) 63 size)

pub returns : goal.returns
returns g c =
    let b = g.W.Numbers.at c.args.b.now in
    let nodes = c.args.nodes.now in
    record {
      answer = c.root.ensures;
      tells = λ leaves ok e. (
        get_or nodes 0 empty_grey,
        answered nodes c.root.result (tree_size b leaves nodes e) c.root.ensures,
        root_tells b (g.met.W.Numbers.bounded c.args.b.now) leaves ok nodes e,
      );
    }
