use Rattle.std.proofs.Common.{refl, ap, ◌∙◌, subst, arith}
use Rattle.rules.specs.Settling.{settled}
use Rattle.face.specs.Shown.{shown}
use Rattle.face.proofs.Fines.{fine}
use Rattle.filtering.specs.Ends.{Says}
use Rattle.filtering.proofs.Runs.{came_stops, came_ends, came_next, same_numbers, changed_less, minutes_few}
use Rattle.filtering.proofs.settling.settle.Goals as goal

pub overflow_add-rounds : goal.overflow_add-rounds
overflow_add-rounds g c = omega (arith, c.loop-stopped.invariant.less, minutes_few (shown c.args.face.now) (fine c.args.face.now))

pub returns-in-Err : goal.returns-in-Err
returns-in-Err g c =
    let F = shown c.args.face.now in
    let b = g.B.Worked.Numbers.at c.numbers_for-b.result in
    let is = came_stops b F (shown c.loop-stopped.current) c.loop-stopped.rounds c.loop-stopped.invariant (shown c.in-Err.stopped.held) c.in-Err.stopped.cause c.in-Err.ensures in
    let same = same_numbers b (g.B.Bound.becomes c.args.bound F.n F.gap) c.numbers_for-b.ensures.numbers in
    subst (Says _) (is ∙ ap (λ q. settled q F) same) (record { cause = refl; rounds = refl; held = c.windows.ensures })

pub returns-then-is_unchanged : goal.returns-then-is_unchanged
returns-then-is_unchanged g c =
    let F = shown c.args.face.now in
    let b = g.B.Worked.Numbers.at c.numbers_for-b.result in
    let is = came_ends b F (shown c.loop-stopped.current) c.loop-stopped.rounds c.loop-stopped.invariant (shown c.in-Ok.next) c.in-Ok.ensures c.if-is_unchanged.ensures in
    let same = same_numbers b (g.B.Bound.becomes c.args.bound F.n F.gap) c.numbers_for-b.ensures.numbers in
    subst (Says _) (is ∙ ap (λ q. settled q F) same) (record { cause = refl; rounds = refl; held = c.windows-then-is_unchanged.ensures })

pub loop-stopped-smaller : goal.loop-stopped-smaller
loop-stopped-smaller g c =
    let b = g.B.Worked.Numbers.at c.numbers_for-b.result in
    let G = c.loop-stopped.current in
    changed_less b (shown G) (shown c.in-Ok.next) (fine G) c.loop-stopped.invariant.lawful c.in-Ok.ensures c.if-is_unchanged.ensures

pub loop-stopped-preserved : goal.loop-stopped-preserved
loop-stopped-preserved g c =
    let b = g.B.Worked.Numbers.at c.numbers_for-b.result in
    let G = c.loop-stopped.current in
    came_next b (shown c.args.face.now) (shown G) c.loop-stopped.rounds c.loop-stopped.invariant (shown c.in-Ok.next) (fine G) c.in-Ok.ensures c.if-is_unchanged.ensures
