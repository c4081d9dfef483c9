use Rattle.face.proofs.Whites.{holds_none}
use Rattle.face.proofs.white_tree.WhiteTree.new.Goals as goal

pub returns : goal.returns
returns c = λ F b S first none. holds_none F b S _ none (c.no_nodes.ensures b first (λ x. x))
