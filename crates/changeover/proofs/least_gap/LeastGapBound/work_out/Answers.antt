use Rattle.std.proofs.Common.{◌≡◌, ℕ, sym, ap, ◌∙◌, subst, rules}
use Rattle.changeover.specs.Rules.{LeastGapRule}
use Rattle.changeover.specs.Kinds.{least_gap, multiples}
use Rattle.changeover.specs.Table.{jobs_of, gap_of}
use Rattle.changeover.specs.Laws.{multiples_lawful}
use Rattle.changeover.proofs.Exactly.{least_gap_rule}
use Rattle.changeover.proofs.Tables.{gap_small}
use Rattle.changeover.proofs.least_gap.LeastGapBound.work_out.Goals as goal

pub returns-clause-lawful : goal.returns-clause-lawful
returns-clause-lawful c = search (rules, multiples_lawful)

pub returns-clause-rule : goal.returns-clause-rule
returns-clause-rule c =
    let gaps = c.args.gaps.now in
    let n = jobs_of gaps in
    let gap = gap_of gaps in
    let same : multiples n (least_gap n gap) ≡ multiples c.jobs.result c.least_of_all.result =
    sym (ap (λ (k : ℕ). multiples k c.least_of_all.result) c.jobs.ensures.value ∙ ap (multiples n) c.least_of_all.ensures) in
    subst (LeastGapRule n gap) same (least_gap_rule n gap gaps.few (gap_small gaps))
