use Rattle.std.proofs.Common.{take}
use Rattle.std.specs.Fmt.{HasWritten, IsPlainFormatter}
use Rattle.std.specs.List.{flat_map}
use Rattle.sheet.specs.Shown.{shown}
use Rattle.sheet.specs.Texts.{card_line}
use Rattle.sheet.proofs.sheet.printing.SheetDisplay.fmt.Given as goal

abbrev pub invariant-loop-card : goal.invariant-loop-card
invariant-loop-card g l =
    IsPlainFormatter l.initial.f → HasWritten g.W.Write.write_str_gives l.initial.f (flat_map (card_line (shown l.self)) (take l.card-index l.card-items)) l.f
