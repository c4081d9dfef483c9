use borrow.Author.Tests.{tests}
use Rattle.std.proofs.Common.{◌≡◌, ◌+◌, ◌-◌, ◌/◌, eqb, rules, ap, ◌∙◌}
use Rattle.std.specs.List.{list_any}
use Rattle.std.proofs.lemmas.Iterator.{YieldsList-from_slice}
use Rattle.std.proofs.lemmas.Iterator.Search.{any_from_yields_List}
use Rattle.rules.specs.Cards.{member}
use Rattle.chain.specs.Listed.{cards}
use Rattle.archive.proofs.Strays.{any_member}
use Rattle.archive.proofs.layout.Layout.belongs.Goals as goal

pub returns : goal.returns
returns c =
    let card = (c.args.byte - 524) / 24 + 1 in
    let any = any_from_yields_List (λ x. eqb card x) _ _ c.any.result c.any.ensures.ran (YieldsList-from_slice _ c.iter.ensures.rest) (λ x b q k. search (rules, tests)) in
    let is : c.any.result ≡ member card (cards c.args.self.now.chain) = any ∙ ap (list_any (λ x. eqb card x)) c.cards.ensures.value ∙ any_member card (cards c.args.self.now.chain) in
    search rules
