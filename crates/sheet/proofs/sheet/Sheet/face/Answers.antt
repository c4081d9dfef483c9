use Rattle.std.proofs.Common.{◌≡◌, ℕ, ◌<◌, List, length, get_or, ap, ◌∙◌, arith, rules}
use Rattle.changeover.proofs.Chains.{filled}
use Rattle.rules.specs.Books.{rising}
use Rattle.chain.specs.Listed.{cards}
use Rattle.face.specs.Shown.{no_job}
use Rattle.sheet.specs.Read.{gap_among, timed_at}
use Rattle.sheet.specs.Shown.{book_of}
use Rattle.sheet.proofs.Facing.{faces, fits}
use Rattle.sheet.proofs.sheet.Sheet.face.Goals as goal

pub unreachable-requires : goal.unreachable-requires
unreachable-requires c =
    let B = book_of c.args.self.now in
    let jobs = c.from_fn-jobs.result in
    let order_is : cards c.args.order.now ≡ rising B = c.requires in
    let few = c.len.ensures.few in
    let many = ap length order_is in
    let each : (i : ℕ) → i < length (rising B) → get_or jobs i no_job ≡ timed_at B.jobs B.posted (rising B) i = λ i h. filled _ jobs no_job (timed_at B.jobs B.posted (cards c.args.order.now)) (λ x r q k. search rules) 32 i c.from_fn-jobs.ensures.items (omega (arith, few, c.len.ensures.value, many)) ∙ ap (λ (o : List ℕ). timed_at B.jobs B.posted o i) order_is in
    fits B c.args.self.now.sound c.gaps_in-gaps.result jobs c.len.result (c.len.ensures.value ∙ many) (c.gaps_in-gaps.ensures.jobs ∙ many) (λ i j. c.gaps_in-gaps.ensures.gaps i j ∙ ap (λ (o : List ℕ). gap_among B.changeovers B.jobs o i j) order_is) each c.from_fn-jobs.ensures.items.long few c.in_default.ensures

pub returns : goal.returns
returns c =
    let B = book_of c.args.self.now in
    let jobs = c.from_fn-jobs.result in
    let order_is : cards c.args.order.now ≡ rising B = c.requires in
    let few = c.len.ensures.few in
    let many = ap length order_is in
    let each : (i : ℕ) → i < length (rising B) → get_or jobs i no_job ≡ timed_at B.jobs B.posted (rising B) i = λ i h. filled _ jobs no_job (timed_at B.jobs B.posted (cards c.args.order.now)) (λ x r q k. search rules) 32 i c.from_fn-jobs.ensures.items (omega (arith, few, c.len.ensures.value, many)) ∙ ap (λ (o : List ℕ). timed_at B.jobs B.posted o i) order_is in
    c.in-Some.ensures.2
    ∙ faces B c.args.self.now.sound c.gaps_in-gaps.result jobs c.len.result (c.len.ensures.value ∙ many) (c.gaps_in-gaps.ensures.jobs ∙ many) (λ i j. c.gaps_in-gaps.ensures.gaps i j ∙ ap (λ (o : List ℕ). gap_among B.changeovers B.jobs o i j) order_is) each
