use borrow.Author.Tests.{tests}
use Rattle.std.proofs.Common.{rules, ap, ◌∙◌}
use Rattle.std.specs.List.{list_all}
use Rattle.std.proofs.lemmas.Iterator.{YieldsList-from_slice}
use Rattle.std.proofs.lemmas.Iterator.Search.{all_from_yields_List}
use Rattle.sheet.specs.Shown.{book_of, shown}
use Rattle.archive.specs.Bytes.{bytes_of}
use Rattle.archive.proofs.Holding.{same_on, all_same}
use Rattle.archive.proofs.page.Page.all_hold_same.Goals as goal

pub returns : goal.returns
returns c =
    let p = bytes_of c.args.self.now in
    let M = shown c.args.sheet.now in
    let all = all_from_yields_List (same_on p M) _ _ c.all.result c.all.ensures.ran (YieldsList-from_slice _ c.iter.ensures.rest) (λ x b q k. search (rules, tests)) in
    all ∙ ap (list_all (same_on p M)) (c.cards.ensures.value ∙ c.chain.ensures) ∙ all_same p M (book_of c.args.sheet.now).chain
