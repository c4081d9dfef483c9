use Rattle.std.proofs.Common.{is_ok, Err, sym, ap, ◌∙◌, arith}
use Rattle.std.proofs.lemmas.Result.{err_from_is_err_and}
use Rattle.std.proofs.lemmas.Bool.{both_ways}
use Rattle.rules.specs.Histories.{loads}
use Rattle.rules.proofs.Promised.{stays}
use Rattle.rules.proofs.PageTrips.{saves_same}
use Rattle.sheet.specs.Shown.{shown}
use Rattle.archive.specs.Answers.{sheet_of}
use Rattle.archive.proofs.Loaded.{load_refused, load_accepted, loaded_refused, loaded_accepted}
use Rattle.archive.proofs.loading.load.Goals as goal

pub returns-in_err-sheet : goal.returns-in_err-sheet
returns-in_err-sheet g c =
    let f = g.B.Bound.becomes c.args.bound in
    let p = c.args.page.now in
    let M = shown c.args.sheet.now in
    let raised = err_from_is_err_and c.from_residual.result c.from_residual.ensures.1 in
    let found = sym c.read.ensures ∙ ap sheet_of c.in_err-sheet.was in
    let is = raised.1 ∙ ap Err raised.2 in
    let exact = loaded_refused f p M _ found in
    record {
      answer = is ∙ load_refused f p _ found;
      after = exact;
      kept = stays M _ (loads p f) (g.met.B.Bound.keeps c.args.bound) exact;
      bytes = λ granted. absurd (both_ways _ (ap is_ok is) granted);
    }

pub returns : goal.returns
returns g c =
    let f = g.B.Bound.becomes c.args.bound in
    let p = c.args.page.now in
    let M = shown c.args.sheet.now in
    let found = sym c.in_ok-sheet.ensures in
    let exact = loaded_accepted f p M _ found in
    record {
      answer = load_accepted f p _ found;
      after = exact;
      kept = stays M _ (loads p f) (g.met.B.Bound.keeps c.args.bound) exact;
      bytes = λ granted. saves_same f p (λ k. omega (arith, c.type_inv.page k)) _ found;
    }
