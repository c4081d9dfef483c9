use Rattle.std.proofs.Common.{Ok, Err, rules}
use Rattle.matrix.specs.declared.refusals.MatrixRefusal.TheVariants.{TooGreat, Triangle}
use Rattle.matrix.proofs.Matrices.{judged_is}
use Rattle.matrix.proofs.questions.check_matrix.Goals as goal

pub returns-in_err-rows-clause-judged : goal.returns-in_err-rows-clause-judged
returns-in_err-rows-clause-judged c = judged_is c.args.setups c.args.numbers.now c.from_residual.result (search rules)

pub returns-in-Some-clause-judged : goal.returns-in-Some-clause-judged
returns-in-Some-clause-judged c = judged_is c.args.setups c.args.numbers.now (Err (TooGreat c.in-Some.entry)) (search rules)

pub returns-in-Some-first_triple_broken-clause-judged : goal.returns-in-Some-first_triple_broken-clause-judged
returns-in-Some-first_triple_broken-clause-judged c = judged_is c.args.setups c.args.numbers.now (Err (Triangle c.in-Some-first_triple_broken.triple)) (search rules)

pub returns-clause-judged : goal.returns-clause-judged
returns-clause-judged c = judged_is c.args.setups c.args.numbers.now (Ok tt) (search rules)
