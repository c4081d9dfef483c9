use Rattle.std.proofs.Common.{◌∙◌, ◌≤◌, length, arith}
use Rattle.face.specs.Shown.{shown}
use Rattle.face.proofs.Ranks.{place_rank, ranked_firsts, listed_firsts}
use Rattle.face.proofs.reading.calls.by_early.Goals as goal

pub by_rank-requires-clause-ranked : goal.by_rank-requires-clause-ranked
by_rank-requires-clause-ranked c =
    let F = shown c.args.face.now in
    let places = c.args.places.now in
    let room : c.jobs.result ≤ length places = omega (arith, c.told-places) in
    (F.early, ranked_firsts c.jobs.result F.n F.early places c.jobs.ensures.value room (λ j h. (c.requires j h).0 ∙ place_rank F j))

pub returns : goal.returns
returns c =
    let F = shown c.args.face.now in
    let places = c.args.places.now in
    let room : c.jobs.result ≤ length places = omega (arith, c.told-places) in
    listed_firsts c.jobs.result F.n F.early places c.jobs.ensures.value room c.by_rank.result (c.by_rank.ensures F.early (ranked_firsts c.jobs.result F.n F.early places c.jobs.ensures.value room (λ j h. (c.requires j h).0 ∙ place_rank F j)))
