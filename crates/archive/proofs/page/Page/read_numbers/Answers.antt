use Rattle.std.proofs.Common.{rules}
use Rattle.changeover.proofs.Chains.{filled}
use Rattle.archive.specs.Bytes.{bytes_of}
use Rattle.archive.proofs.Numbers.{number_in, numbers_are}
use Rattle.archive.proofs.page.Page.read_numbers.Goals as goal

pub returns : goal.returns
returns c =
    let p = bytes_of c.args.self.now in
    let m = c.args.setups in
    numbers_are p c.from_fn.result m c.requires c.from_fn.ensures.items.long
    (λ k h. filled _ c.from_fn.result 0 (number_in p m) (λ x r q k. search rules) 256 k c.from_fn.ensures.items h)
