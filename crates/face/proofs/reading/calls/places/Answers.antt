use Rattle.std.proofs.Common.{rules, sym, ◌∙◌, arith}
use Rattle.face.specs.Shown.{shown}
use Rattle.face.specs.Orders.{Ranked}
use Rattle.face.proofs.Fines.{fine}
use Rattle.face.proofs.Ranks.{rank_below, place_rank}
use Rattle.face.proofs.reading.calls.places.Goals as goal

pub returns : goal.returns
returns c =
    let F = c.args.face.now in
    let n = (shown F).n in
    let ranked : Ranked n (shown F).early c.ranks.result = c.ranks.ensures n (shown F).early (c.of.ensures (shown F).early (λ j x p. search rules)) in
    λ j h. (ranked j h ∙ sym (place_rank (shown F) j), omega (arith, ranked j h, rank_below (shown F).early n j h, (fine F).few))
