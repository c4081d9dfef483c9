use Rattle.std.proofs.Common.{[], rules}
use Rattle.changeover.proofs.Chains.{filled}
use Rattle.sheet.specs.Shown.{shown}
use Rattle.archive.proofs.Fronts.{changeover_piece, joined_is}
use Rattle.archive.proofs.saving.changeover_bytes.Goals as goal

pub returns : goal.returns
returns c =
    let piece = changeover_piece (shown c.args.sheet.now) in
    joined_is piece c.from_fn.result 256 c.from_fn.ensures.items.long (λ k h. filled _ c.from_fn.result [] piece (λ x r q k. search rules) 256 k c.from_fn.ensures.items h)
