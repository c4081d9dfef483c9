use Rattle.std.proofs.Common.{◌≡◌, sym, ap, ◌∙◌}
use Rattle.rules.specs.Rules.{above, up_to}
use Rattle.face.specs.Readings.{bound_of, read}
use Rattle.filtering.specs.Edges.{flagged}
use Rattle.filtering.proofs.Crowds.{blames_one, blames_none}
use Rattle.filtering.proofs.edges.Edges.blamed.Goals as goal

pub returns-then-is_above : goal.returns-then-is_above
returns-then-is_above g c =
    let F = read c.args.reading.now in
    let j = c.args.j in
    let latest = c.latest-latest.result in
    let limit : c.late-late.result ≡ F.late j = c.late-late.ensures.value ∙ ap (λ x. x.late j) c.face.ensures in
    let test = c.is_above.ensures in
    let G = flagged c.args.self.now.grey in
    blames_one F (g.W.Numbers.at (bound_of c.args.reading.now)) j G latest.with_grey latest.job (c.latest-latest.ensures.grey (up_to F j) G c.requires.apart c.requires.holds) c.requires.calm (ap (above latest.with_grey) (sym limit) ∙ sym test ∙ c.if-is_above.true)

pub returns-else-is_above : goal.returns-else-is_above
returns-else-is_above g c =
    let F = read c.args.reading.now in
    let j = c.args.j in
    let latest = c.latest-latest.result in
    let limit : c.late-late.result ≡ F.late j = c.late-late.ensures.value ∙ ap (λ x. x.late j) c.face.ensures in
    let test = c.is_above.ensures in
    let G = flagged c.args.self.now.grey in
    blames_none F (g.W.Numbers.at (bound_of c.args.reading.now)) j G latest.with_grey latest.job (c.latest-latest.ensures.grey (up_to F j) G c.requires.apart c.requires.holds) (ap (above latest.with_grey) (sym limit) ∙ sym test ∙ c.if-is_above.false)
