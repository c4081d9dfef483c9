use borrow.Author.Tests.{tests}
use Rattle.std.proofs.Common.{ℕ, Bool, not, ◌&&◌, eqb, get_or, rules}
use Rattle.changeover.proofs.Chains.{found}
use Rattle.rules.specs.Pages.{belongs, first_stray}
use Rattle.chain.specs.Listed.{cards}
use Rattle.archive.specs.Bytes.{bytes_of}
use Rattle.archive.proofs.Strays.{such_found}
use Rattle.archive.proofs.layout.Layout.first_stray.Goals as goal

pub returns : goal.returns
unfolding first_stray
returns c =
    let test : ℕ → Bool = λ byte. not (belongs c.args.self.now.setups (cards c.args.self.now.chain) byte) && not (eqb (get_or (bytes_of c.args.self.now.page) byte 0) 0) in
    such_found test 1292 c.find.result (found _ _ c.find.result test 1292 c.find.ensures.ran (λ x r q k. search (rules, tests)))
