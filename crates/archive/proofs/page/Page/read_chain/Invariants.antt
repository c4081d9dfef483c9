use Rattle.std.proofs.Common.{◌≡◌, drop}
use Rattle.rules.specs.Pages.{jobs_pass}
use Rattle.archive.specs.Bytes.{bytes_of}
use Rattle.archive.proofs.page.Page.read_chain.Given as goal

abbrev pub invariant-loop-card : goal.invariant-loop-card
invariant-loop-card l = jobs_pass (bytes_of l.self) l.setups (drop l.card-index l.card-items) ≡ jobs_pass (bytes_of l.self) l.setups l.card-items
