use Rattle.std.proofs.Common.{◌≡◌, ◌-◌, length}
use Rattle.chain.specs.Listed.{cards}
use Rattle.rules.specs.Pages.{links_from, links}
use Rattle.archive.specs.Bytes.{bytes_of}
use Rattle.archive.proofs.page.Page.walk.Given as goal

abbrev pub invariant-loop-link : goal.invariant-loop-link
invariant-loop-link l = links_from (bytes_of l.self) (33 - length (cards l.chain)) (cards l.chain) l.card l.link ≡ links (bytes_of l.self)

abbrev pub decreases-loop-link : goal.decreases-loop-link
decreases-loop-link l = 33 - length (cards l.chain)
