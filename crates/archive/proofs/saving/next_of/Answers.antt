use borrow.Author.Tests.{tests}
use Rattle.std.proofs.Common.{◌≡◌, eqb, rules, ap, ◌∙◌}
use Rattle.std.specs.List.{position}
use Rattle.std.proofs.lemmas.Iterator.{YieldsList-from_slice}
use Rattle.std.proofs.lemmas.Iterator.Search.{position_from_yields_List}
use Rattle.chain.specs.Listed.{cards}
use Rattle.archive.proofs.Nexts.{behind, next_is}
use Rattle.archive.proofs.saving.next_of.Goals as goal

pub returns : goal.returns
returns c =
    let ks = cards c.args.chain.now in
    let card = c.args.card in
    let place = position_from_yields_List (λ x. eqb x card) _ _ c.position.result c.position.ensures.ran (YieldsList-from_slice _ c.iter.ensures.rest) (λ x b q k. search (rules, tests)) in
    let next : c.map_or.result ≡ behind ks c.position.result = search rules in
    next ∙ ap (behind ks) (place ∙ ap (position (λ x. eqb x card)) c.cards.ensures.value) ∙ next_is ks card
