use Rattle.std.proofs.Common.{refl, rules}
use borrow.Author.Tests.{tests}
use Rattle.matrix.specs.Matrix.{too_great}
use Rattle.matrix.proofs.Searches.{searched}
use Rattle.matrix.proofs.questions.Rows.first_too_great_from.Goals as goal

pub returns : goal.returns
returns c =
    let m = c.args.self.now.setups in
    searched _ c.find_map.result (too_great m c.args.self.now.numbers.now c.args.from) m (λ x r q k. search (rules, tests)) c.find_map.ensures.runs refl
