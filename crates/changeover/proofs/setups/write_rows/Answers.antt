use Rattle.std.proofs.Common.{get_or, refl, ◌∙◌}
use Rattle.changeover.specs.Table.{jobs_of, gap_of}
use Rattle.changeover.proofs.Tables.{rows_more}
use Rattle.changeover.proofs.setups.write_rows.Goals as goal

pub loop-k-preserved : goal.loop-k-preserved
loop-k-preserved c =
    let numbers = c.args.numbers.now in
    let k = c.loop-k.k in
    let gaps = c.loop-k.gaps in (
      c.set_gap.ensures.jobs ∙ c.loop-k.invariant.0,
      rows_more c.args.width (jobs_of gaps) k (get_or numbers k 0) numbers (gap_of gaps) (gap_of c.set_gap.new.self) c.loop-k.invariant.0 refl c.set_gap.ensures.gaps c.loop-k.invariant.1,
    )
