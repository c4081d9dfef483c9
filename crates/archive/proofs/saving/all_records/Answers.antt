use Rattle.std.proofs.Common.{[], rules}
use Rattle.changeover.proofs.Chains.{filled}
use Rattle.sheet.specs.Shown.{shown}
use Rattle.archive.proofs.Fronts.{record_piece, joined_is}
use Rattle.archive.proofs.saving.all_records.Goals as goal

pub returns : goal.returns
returns c =
    let piece = record_piece (shown c.args.sheet.now) in
    joined_is piece c.from_fn.result 32 c.from_fn.ensures.items.long (λ k h. filled _ c.from_fn.result [] piece (λ x r q k. search rules) 32 k c.from_fn.ensures.items h)
