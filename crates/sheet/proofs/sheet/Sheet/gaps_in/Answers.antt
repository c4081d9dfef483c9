use Rattle.std.proofs.Common.{length, ◌∙◌, ⊎_elim, arith}
use Rattle.std.proofs.lemmas.Bool.{cases_eq}
use Rattle.chain.specs.Listed.{cards}
use Rattle.sheet.specs.Shown.{book_of}
use Rattle.sheet.specs.Read.{gap_at}
use Rattle.sheet.proofs.Tables.{rows_all}
use Rattle.sheet.proofs.sheet.Sheet.gaps_in.Goals as goal

pub loop-i-preserved : goal.loop-i-preserved
loop-i-preserved c = (
  c.write_gaps_from.ensures.jobs ∙ c.loop-i.invariant.0,
  λ a b ha hb.
      ⊎_elim (λ e. rw e (c.write_gaps_from.ensures.row b hb)) (λ ne. c.write_gaps_from.ensures.others a b ne ∙ c.loop-i.invariant.1 a b (omega arith) hb) (cases_eq a c.loop-i.i),
)

pub returns : goal.returns
returns c =
    let order = cards c.args.order.now in
    record {
      jobs = c.loop-i.invariant.0;
      gaps = rows_all c.loop-i.gaps (length order) (gap_at (book_of c.args.self.now).changeovers (book_of c.args.self.now).jobs order) c.loop-i.invariant.0 (λ a b ha hb. c.loop-i.invariant.1 a b (omega arith) hb);
    }
