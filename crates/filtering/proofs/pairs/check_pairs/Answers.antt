use Rattle.std.proofs.Common.{◌≡◌, rules, ap, ◌∙◌}
use Rattle.face.specs.Shown.{shown}
use Rattle.filtering.specs.Ends.{verdict}
use Rattle.filtering.specs.Pairs.{first_with}
use Rattle.filtering.proofs.Finds.{found_map}
use Rattle.filtering.proofs.Halving.{clashing_from}
use Rattle.filtering.proofs.pairs.check_pairs.Goals as goal

pub returns : goal.returns
returns c =
    let F = shown c.args.face.now in
    let first = clashing_from F c.find_map.result (found_map _ c.find_map.result (first_with F) F.n c.find_map.ensures.runs (ap (λ n. record { start = 0; end = n }) c.jobs.ensures.value) (λ x r q k. search rules)) in
    let told : c.map_or.result ≡ verdict c.find_map.result = search rules in
    told ∙ ap verdict first
