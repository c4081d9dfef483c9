use Rattle.std.proofs.Common.{refl, ap, ◌∙◌, arith}
use Rattle.rules.specs.Cards.{chained}
use Rattle.rules.specs.Pages.{jobs_pass}
use Rattle.sheet.specs.Shown.{shown}
use Rattle.archive.specs.declared.page.record.Record.{Record}
use Rattle.archive.specs.Bytes.{bytes_of}
use Rattle.archive.proofs.Posting.{posted_more}
use Rattle.archive.proofs.layout.Layout.post_all.Goals as goal

pub loop-card-preserved : goal.loop-card-preserved
loop-card-preserved c =
    let layout = c.args.self.now in
    let p = bytes_of layout.page in
    let ks = c.cards-card-items.result.now in
    let listed = c.cards-card-items.ensures.value in
    let found = c.record-found.ensures in
    posted_more p layout.setups ks c.loop-card.card-index (ap chained listed ∙ layout.chain.good) (ap (jobs_pass p layout.setups) listed ∙ layout.jobs) (omega arith) (shown c.loop-card.sheet) (shown c.post.new.self) c.record-found.result.job c.record-found.result.posted _ refl (ap (λ (r : Record). r.job) found) (ap (λ (r : Record). r.posted) found) c.loop-card.invariant c.post.ensures.after
