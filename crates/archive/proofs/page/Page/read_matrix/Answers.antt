use Rattle.std.proofs.Common.{◌≡◌, ℕ, ◌-◌, ◌*◌, take, sym, ap, ◌∙◌, arith}
use Rattle.sheet.specs.Shown.{shown}
use Rattle.archive.specs.Bytes.{bytes_of}
use Rattle.archive.proofs.Posting.{matrix_made}
use Rattle.archive.proofs.page.Page.read_matrix.Goals as goal

pub returns : goal.returns
returns c =
    let m = c.read16-setups.result in
    let w = c.from-width.result in
    let count : w * w - 0 ≡ m * m = omega (arith, ap (λ (k : ℕ). k * k) c.from-width.ensures) in
    let numbers_are = ap (λ (k : ℕ). take k c.read_numbers-numbers.result) count ∙ c.read_numbers-numbers.ensures in
    matrix_made (bytes_of c.args.self.now) m _ (shown c.make.new.self) (shown c.blank-sheet.result) c.read16-setups.ensures numbers_are (sym c.make.ensures.answer ∙ c.in_ok-make.was) c.make.ensures.after
