use Rattle.theta_nodes.specs.Grey.{turned_grey}
use Rattle.face.proofs.Greys.{both_none}
use Rattle.face.proofs.grey_tree.GreyTree.new.Goals as goal

pub returns : goal.returns
returns c = λ F b S G first none nor. both_none F b S G _ none nor (c.no_nodes.ensures b first turned_grey)
