use Rattle.std.proofs.Common.{◌≡◌, ℕ, ◌-◌, List, [], ◌∷◌, ◌++◌, length, sym, ap, ◌∙◌, ap₂, arith}
use Rattle.chain.specs.Listed.{cards}
use Rattle.rules.specs.Pages.{links_from, links}
use Rattle.archive.specs.declared.page.record.Record.{Record}
use Rattle.archive.specs.Bytes.{bytes_of}
use Rattle.archive.proofs.Walks.{cards_few, ends, stops, goes, more, longer}
use Rattle.archive.proofs.page.Page.walk.Goals as goal

pub loop-link-init : goal.loop-link-init
unfolding links
loop-link-init c =
    ap₂ (λ (ks : List ℕ) (link : ℕ). links_from (bytes_of c.args.self.now) (33 - length ks) ks 0 link) c.new-chain.ensures c.read16-link.ensures

pub returns-then-not-push : goal.returns-then-not-push
returns-then-not-push c =
    let few = cards_few c.loop-link.chain in
    sym (stops (bytes_of c.args.self.now) (cards c.loop-link.chain) c.loop-link.card c.loop-link.link (33 - length (cards c.loop-link.chain)) (omega arith) c.loop-link-test.true (sym c.push.ensures.answer ∙ c.if-not-push.true))
    ∙ c.loop-link.invariant

pub loop-link-preserved : goal.loop-link-preserved
loop-link-preserved c =
    let p = bytes_of c.args.self.now in
    let met = cards c.loop-link.chain in
    let link = c.loop-link.link in
    let few = cards_few c.loop-link.chain in
    let joins = sym c.push.ensures.answer ∙ c.if-not-push.false in
    let next = more c.loop-link.chain c.push.new.self link joins c.push.ensures.after in
    let fuel : 33 - length (cards c.push.new.self) ≡ 33 - length met - 1 = omega (arith, longer c.loop-link.chain c.push.new.self link next) in
    let link-is = ap (λ (r : Record). r.next) c.record-link.ensures in
    ap₂ (λ (n : ℕ) (ks : List ℕ). links_from p n ks link c.record-link.result.next) fuel next
    ∙ ap (links_from p (33 - length met - 1) (met ++ link ∷ []) link) link-is
    ∙ sym (goes p met c.loop-link.card link (33 - length met) (omega arith) c.loop-link-test.true joins)
    ∙ c.loop-link.invariant

pub returns : goal.returns
returns c =
    sym (ends (bytes_of c.args.self.now) (cards c.loop-link.chain) c.loop-link.card c.loop-link.link (33 - length (cards c.loop-link.chain)) c.loop-link-test.false)
    ∙ c.loop-link.invariant
