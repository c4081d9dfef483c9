use Rattle.std.proofs.Common.{ap, ◌∙◌}
use Rattle.face.proofs.Whites.{holds_finish}
use Rattle.face.proofs.white_tree.WhiteTree.finish.Goals as goal

pub returns : goal.returns
returns c = λ F b S h. ap (λ x. x.finish) c.root.ensures ∙ holds_finish F b S c.args.self.now h
