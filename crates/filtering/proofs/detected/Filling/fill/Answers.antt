use Rattle.std.proofs.Common.{ℕ, ◌+◌, Bool, sym, subst, ap, arith}
use Rattle.rules.specs.Faces.{latest_start}
use Rattle.rules.specs.Rules.{with_job}
use Rattle.face.specs.Readings.{bound_of, read}
use Rattle.face.specs.Orders.{HasRank, firsts}
use Rattle.face.proofs.Whites.{holds_same}
use Rattle.filtering.specs.Sets.{Filled}
use Rattle.filtering.proofs.Lates.{firsts_with}
use Rattle.filtering.proofs.Fillings.{stops, full, low_more}
use Rattle.filtering.proofs.detected.Filling.fill.Goals as goal

pub returns-then-latest_start-limit : goal.returns-then-latest_start-limit
returns-then-latest_start-limit g c =
    let F = read c.args.reading.now in
    let q = c.loop-q.q in
    let j = c.starting_job-j.result in
    let v = c.loop-q.invariant in
    let at : HasRank F.n (latest_start F) q j = c.starting_job-j.ensures.job (omega (arith, ap (λ x. x.n) c.face.ensures)) in
    let filled : Filled F (g.W.Numbers.at (bound_of c.args.reading.now)) q c.args.limit c.loop-q.self.tree =
    record { holds = v.1; same = stops F j q c.args.limit at (omega (arith, ap (λ x. latest_start x j) c.face-in-loop-q.ensures)) v.2 } in
    subst (λ p. Filled F (g.W.Numbers.at (bound_of c.args.reading.now)) p c.args.limit c.loop-q.self.tree) (sym v.0) filled

pub loop-q-preserved : goal.loop-q-preserved
loop-q-preserved g c =
    let F = read c.args.reading.now in
    let b = g.W.Numbers.at (bound_of c.args.reading.now) in
    let q = c.loop-q.q in
    let j = c.starting_job-j.result in
    let v = c.loop-q.invariant in
    let S : ℕ → Bool = firsts F.n (latest_start F) q in
    let at : HasRank F.n (latest_start F) q j = c.starting_job-j.ensures.job (omega (arith, ap (λ x. x.n) c.face.ensures)) in (
      omega (arith, v.0),
      holds_same F b (with_job j S) (firsts F.n (latest_start F) (q + 1)) c.enter.new.self (firsts_with F.n (latest_start F) j q at) (c.enter.ensures S v.1),
      low_more F j q c.args.limit at (omega (arith, ap (λ x. latest_start x j) c.face-in-loop-q.ensures)) v.2,
    )

pub returns : goal.returns
returns g c =
    let F = read c.args.reading.now in
    let q = c.loop-q.q in
    let v = c.loop-q.invariant in
    let filled : Filled F (g.W.Numbers.at (bound_of c.args.reading.now)) q c.args.limit c.loop-q.self.tree =
    record { holds = v.1; same = full F q c.args.limit (omega (arith, ap (λ x. x.n) c.face.ensures)) v.2 } in
    subst (λ p. Filled F (g.W.Numbers.at (bound_of c.args.reading.now)) p c.args.limit c.loop-q.self.tree) (sym v.0) filled
