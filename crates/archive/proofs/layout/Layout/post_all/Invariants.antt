use Rattle.std.proofs.Common.{◌≡◌, take}
use Rattle.rules.specs.Models.{reopened}
use Rattle.rules.specs.Pages.{page_book}
use Rattle.sheet.specs.Shown.{shown}
use Rattle.archive.specs.Bytes.{bytes_of}
use Rattle.archive.proofs.layout.Layout.post_all.Given as goal

abbrev pub invariant-loop-card : goal.invariant-loop-card
invariant-loop-card l = shown l.sheet ≡ reopened (page_book (bytes_of l.self.page) l.self.setups (take l.card-index l.card-items))
