use Rattle.std.proofs.Common.{rules}
use Rattle.std.proofs.lemmas.List.FromFn.{fill_by_all}
use Rattle.changeover.proofs.Chains.{filled}
use Rattle.rules.specs.Books.{laid, laid_out}
use Rattle.sheet.proofs.rows.laid_out.Goals as goal

pub returns : goal.returns
unfolding laid_out
returns c =
    let laid = laid c.args.setups c.args.numbers.now in
    fill_by_all laid c.from_fn.result 256 0 c.from_fn.ensures.items.long (λ k h. filled _ c.from_fn.result 0 laid (λ x r q k. search rules) 256 k c.from_fn.ensures.items h)
