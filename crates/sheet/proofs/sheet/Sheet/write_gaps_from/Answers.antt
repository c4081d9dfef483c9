use Rattle.std.proofs.Common.{ℕ, min, ap, ◌∙◌, ap₂, arith}
use Rattle.matrix.specs.Matrix.{changeover}
use Rattle.changeover.specs.Table.{gap_of}
use Rattle.rules.specs.declared.sheet.Job.{Job}
use Rattle.chain.specs.Listed.{cards}
use Rattle.sheet.specs.Shown.{book_of}
use Rattle.sheet.specs.Read.{gap_at}
use Rattle.sheet.proofs.Tables.{row_more, rows_kept}
use Rattle.sheet.proofs.sheet.Sheet.write_gaps_from.Goals as goal

pub loop-j-preserved : goal.loop-j-preserved
loop-j-preserved c =
    let gaps = c.loop-j.gaps in
    let new = gap_of c.set_gap.new.self in
    let numbers = (book_of c.args.self.now).changeovers in
    let wanted = gap_at numbers (book_of c.args.self.now).jobs (cards c.args.order.now) c.args.i in
    let from_is = ap (λ (job : Job). job.setup) c.job_in-from.ensures in
    let to_is = ap (λ (job : Job). job.setup) c.job_in-to.ensures in
    let is = ap (λ (x : ℕ). min x 12000) (c.between.ensures ∙ ap₂ (changeover 16 numbers) from_is to_is) in (
      c.set_gap.ensures.jobs ∙ c.loop-j.invariant.0,
      row_more gaps new c.args.i c.loop-j.j c.between.result wanted (omega (arith, c.loop-j.invariant.0)) (omega (arith, c.loop-j.invariant.0)) is c.set_gap.ensures.gaps c.loop-j.invariant.1,
      λ a b ne. rows_kept gaps new c.args.i c.loop-j.j c.between.result c.set_gap.ensures.gaps a b ne ∙ c.loop-j.invariant.2 a b ne,
    )

pub returns : goal.returns
returns c = record { jobs = c.loop-j.invariant.0; row = λ j h. c.loop-j.invariant.1 j (omega arith); others = c.loop-j.invariant.2 }
