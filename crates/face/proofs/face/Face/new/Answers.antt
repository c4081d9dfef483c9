use Rattle.std.proofs.Common.{◌<◌, ◌++◌, length, get_or, drop, replicate, ◌∙◌, arith}
use Rattle.std.proofs.lemmas.List.{get_or_append_left}
use Rattle.face.specs.Shown.{no_job}
use Rattle.face.proofs.Alike.{checked_from, made_from}
use Rattle.face.proofs.face.Face.new.Goals as goal

pub returns : goal.returns
returns c =
    let jobs = c.args.jobs.now in
    let gaps = c.args.gaps.now in
    let items = c.loop-j.job-items in
    let rest = drop (length jobs) (replicate 32 no_job) in
    made_from jobs gaps c.checked.result (omega arith) (checked_from (items ++ rest) (λ k. get_or jobs k no_job) gaps c.checked.result (λ j h. let inside : j < length items = omega (arith, h, c.loop-j.invariant.0) in get_or_append_left items rest no_job j inside ∙ c.loop-j.invariant.1 j (omega (arith, h, c.loop-j.invariant.0))) c.checked.ensures)
