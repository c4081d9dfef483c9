use Rattle.std.proofs.Common.{◌≡◌, ℕ, ◌^◌, ◌<◌, true, false, eqb, List, ◌++◌, length, sym, refl, ◌∙◌, arith}
use borrow.Rule.Slice.PartMut.{put_mid, post_of}
use Rattle.std.proofs.lemmas.Bool.{eq-eqb, ne_eqb, cond-true}
use Rattle.rules.specs.Models.{Model}
use Rattle.rules.specs.Pages.{joined, head_bytes, page_of, LoadsSame}
use Rattle.rules.proofs.PageBytes.{joined_long, page_long}
use Rattle.rules.proofs.PageTrips.{loads_same}
use Rattle.rules.proofs.Soundness.{sound}
use Rattle.sheet.specs.declared.sheet.Sheet.{Sheet}
use Rattle.sheet.specs.Shown.{book_of, shown}
use Rattle.archive.proofs.Fronts.{front_none, front_part, front_all, changeover_piece, record_piece}
use Rattle.archive.proofs.saving.save.Goals as goal

-- the three parts of a page, written one after another
page_written : (M : Model) (page head changeovers records : List ℕ) → length page ≡ 1292 → head ≡ head_bytes M → changeovers ≡ joined (changeover_piece M) 256 → records ≡ joined (record_piece M) 32
    → put_mid 524 768 (put_mid 12 512 (head ++ post_of 0 12 page) changeovers) records ≡ page_of M
unfolding page_of
page_written M page head changeovers records long a b c =
    let wide = joined_long (changeover_piece M) 2 (λ k. refl) 256 in
    let first = front_part 0 12 refl refl (front_none page) a in
    let second = front_part 12 512 refl (sym wide) first b in
    let third = front_part 524 768 (omega (arith, wide)) (sym (joined_long (record_piece M) 24 (λ k. refl) 32)) second c in
    front_all third (long ∙ sym (page_long M))

-- on every way out
loads : (sheet : Sheet) → sheet.rounds < 2 ^ 32 → LoadsSame (shown sheet)
loads sheet fits = loads_same (shown sheet) (sound (book_of sheet) sheet.sound) fits

pub returns-then-page-ne1292 : goal.returns-then-page-ne1292
returns-then-page-ne1292 c =
    let other : eqb (length c.args.page.now) 1292 ≡ false = ne_eqb _ _ c.if-page-ne1292.true in
    record { answer = rw other; after = rw other; same = loads c.args.sheet.now (omega arith) }

pub returns : goal.returns
returns c =
    let size : eqb (length c.args.page.now) 1292 ≡ true = eq-eqb _ _ c.if-page-ne1292.false in
    record {
      answer = rw size;
      after = page_written (shown c.args.sheet.now) c.args.page.now _ _ _ c.if-page-ne1292.false (c.copy_from_slice.ensures.after ∙ c.head_bytes.ensures) (c.copy_from_slice-2.ensures.after ∙ c.as_flattened.ensures.value ∙ c.changeover_bytes.ensures) (c.copy_from_slice-3.ensures.after ∙ c.as_flattened-2.ensures.value ∙ c.all_records.ensures)
          ∙ sym (cond-true _ _ _ size);
      same = loads c.args.sheet.now (omega arith);
    }
