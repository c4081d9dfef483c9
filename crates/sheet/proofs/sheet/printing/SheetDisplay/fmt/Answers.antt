use Rattle.std.proofs.Common.{[], rules, sym, ap, ◌∙◌, arith, get_or, take}
use Rattle.std.proofs.Output.{has_written_append, has_written_of_eq}
use Rattle.std.proofs.lemmas.List.{take_more, flat_map_more}
use Rattle.std.specs.List.{flat_map}
use Rattle.sheet.specs.Shown.{shown}
use Rattle.sheet.specs.Texts.{card_line}
use Rattle.sheet.proofs.sheet.printing.SheetDisplay.fmt.Goals as goal

pub loop-card-preserved : goal.loop-card-preserved
loop-card-preserved g c = λ p.
    let line = card_line (shown c.args.self.now) in
    let cards = c.cards-card-items.result.now in
    let i = c.loop-card.card-index in
    let more = flat_map_more line [] (take i cards) (get_or cards i 0) ∙ ap (flat_map line) (sym (take_more cards i 0 (omega arith))) in
    has_written_of_eq _ _ _ _ _ more (has_written_append _ _ _ _ (line (get_or cards i 0)) _ (c.loop-card.invariant p) (search rules))
