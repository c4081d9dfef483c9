use Rattle.std.proofs.Common.{◌≡◌, rules, ap, ◌∙◌}
use Rattle.face.specs.Shown.{shown}
use Rattle.filtering.specs.Ends.{verdict}
use Rattle.filtering.proofs.Halving.{short, shortened_by}
use Rattle.filtering.proofs.shorten.check_room.Goals as goal

pub returns : goal.returns
returns c =
    let told : c.map_or.result ≡ verdict (short c.first_short.result) = search rules in
    λ b ruled. told ∙ ap verdict (shortened_by (shown c.args.face.now) b c.args.windows.now ruled c.first_short.result c.first_short.ensures)
