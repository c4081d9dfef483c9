-- A loaded page saves as the same bytes, and a saved page loads as the same sheet. Assumes nothing.
use Rattle.std.proofs.Common.{◌≡◌, ℕ, ◌+◌, ◌*◌, ◌/◌, ◌%◌, ◌^◌, ◌<◌, true, false, ◌&&◌, eqb, ltb, List, [], ◌∷◌, get_or, sym, ap, ◌∙◌, subst, ⊎_elim, arith}
use Rattle.std.proofs.lemmas.Bool.{and_parts, or_cases, eqb-true, cases_Bool, cond-false, true≢false}
use Rattle.rules.specs.Faults.{record_start}
use Rattle.rules.specs.Cards.{member, is_card}
use Rattle.rules.specs.Books.{no_job, no_window, job_on, posted_on, laid_out}
use Rattle.rules.specs.Models.{Model, held_on, Meaning}
use Rattle.rules.specs.Sounds.{Sound}
use Rattle.rules.specs.Pages.{status_number, first_of, next_in, page_of, le16, le32, page_numbers, job_in, posted_in, held_in, page_book, same_held, agrees, Behind, Bytes, LoadsSame, SavesSame}
use Rattle.rules.proofs.Chains.{card_within}
use Rattle.rules.proofs.Sounds.{laid_at}
use Rattle.rules.proofs.Links.{links_linked, linked_first, linked_next}
use Rattle.rules.proofs.PageBytes.{CardReading, Reading, page_long, page_reading, reading_page}
use Rattle.rules.proofs.PageReads.{Read, read_facts, read_from, listed_on, book_is, read_sound, read_behind}
use Rattle.rules.proofs.PageParts.{laid_page, changeover_belongs, card_belongs, unused_zero, Zero, zero16, zero32, off_numbers}
use Rattle.rules.proofs.PageFits.{sheet_small, reading_read}

-- each card holds on the page what it holds on the sheet
held_same : (p : List ℕ) (M : Model) (cards : List ℕ) → same_held p M cards ≡ true → (card : ℕ) → member card cards ≡ true → ((held_in p card).early ≡ (held_on M card).early) × ((held_in p card).late ≡ (held_on M card).late)
held_same p M [] e card m = absurd (true≢false (sym m))
held_same p M (x ∷ xs) e card m =
    let q = and_parts (eqb (held_in p x).early (held_on M x).early && eqb (held_in p x).late (held_on M x).late) (same_held p M xs) e in
    let r = and_parts (eqb (held_in p x).early (held_on M x).early) (eqb (held_in p x).late (held_on M x).late) q.0 in
    ⊎_elim
    (λ same.
    subst (λ k. ((held_in p k).early ≡ (held_on M k).early) × ((held_in p k).late ≡ (held_on M k).late)) (sym (eqb-true card x same)) (eqb-true _ _ r.0, eqb-true _ _ r.1))
    (held_same p M xs q.1 card)
    (or_cases (eqb card x) (member card xs) m)

-- what question 18 says
agreed : (p : List ℕ) (M : Model) → agrees p M ≡ true → (le16 p 6 ≡ status_number M.status) × (le32 p 8 ≡ M.rounds) × (same_held p M M.book.chain ≡ true)
agreed p M e =
    let a = and_parts (eqb (le16 p 6) (status_number M.status)) (eqb (le32 p 8) M.rounds && same_held p M M.book.chain) e in
    let b = and_parts (eqb (le32 p 8) M.rounds) (same_held p M M.book.chain) a.1 in (eqb-true _ _ a.0, eqb-true _ _ b.0, b.1)

module _ (f : Meaning) (p : List ℕ) (M : Model) (r : Read f p M) where
  -- the book of the sheet, part by part
  setups_is : M.book.setups ≡ le16 p 2
  unfolding page_book
  setups_is = ap (λ B. B.setups) (book_is f p M r)

  chain_is : M.book.chain ≡ r.cards
  unfolding page_book
  chain_is = ap (λ B. B.chain) (book_is f p M r)

  changeovers_is : M.book.changeovers ≡ laid_out (le16 p 2) (page_numbers p (le16 p 2))
  unfolding page_book
  changeovers_is = ap (λ B. B.changeovers) (book_is f p M r)

  job_is : (card : ℕ) → is_card card ≡ true → member card r.cards ≡ true → job_on M.book card ≡ job_in p card
  unfolding page_book
  job_is card is m = ap (λ B. job_on B card) (book_is f p M r) ∙ listed_on (job_in p) no_job r.cards card is m

  posted_is : (card : ℕ) → is_card card ≡ true → member card r.cards ≡ true → posted_on M.book card ≡ posted_in p card
  unfolding page_book
  posted_is card is m = ap (λ B. posted_on B card) (book_is f p M r) ∙ listed_on (posted_in p) no_window r.cards card is m

  read_changeovers : (k : ℕ) → k < 256 → le16 p (12 + 2 * k) ≡ get_or M.book.changeovers k 0
  read_changeovers k h =
      let at = ap (λ xs. get_or xs k 0) changeovers_is in
      ⊎_elim
      (λ on. sym (at ∙ laid_page p (le16 p 2) k h on))
      (λ off.
      zero16 p (12 + 2 * k) (12 + 2 * k + 2)
      (λ byte l u. unused_zero p (le16 p 2) r.cards r.clean byte (omega arith) (changeover_belongs (le16 p 2) r.cards k byte h l u ∙ off))
      (12 + 2 * k) (omega arith) (omega arith)
      ∙ sym (at ∙ (laid_at (le16 p 2) (page_numbers p (le16 p 2)) k h ∙ cond-false _ _ _ off)))
      (cases_Bool (ltb (k / 16) (le16 p 2) && ltb (k % 16) (le16 p 2)))

  -- a card of the chain
  read_on : (card : ℕ) → is_card card ≡ true → member card r.cards ≡ true → CardReading p M card
  read_on card is m =
      let l = links_linked p r.cards r.linked in
      let job = sym (job_is card is m) in
      let posted = sym (posted_is card is m) in
      let held = held_same p M M.book.chain (agreed p M r.same).2 card (ap (member card) chain_is ∙ m) in
      record {
        next = linked_next p (le16 p 4) r.cards l.1 card m ∙ ap (λ ks. next_in ks card) (sym chain_is);
        setup = ap (λ j. j.setup) job;
        duration = ap (λ j. j.duration) job;
        opens = ap (λ w. w.early) posted;
        closes = ap (λ w. w.late) posted;
        held_opens = held.0;
        held_closes = held.1;
      }

  -- any other: its record is zero
  off_bytes : (card : ℕ) → is_card card ≡ true → member card M.book.chain ≡ false → Zero p (record_start card) (record_start card + 24)
  off_bytes card is m byte l u =
      let w = card_within card is in
      unused_zero p (le16 p 2) r.cards r.clean byte (omega arith) (card_belongs (le16 p 2) r.cards card byte is l u ∙ (ap (member card) (sym chain_is) ∙ m))

  read_off : (card : ℕ) → is_card card ≡ true → member card M.book.chain ≡ false → Sound M.book → Behind f M → CardReading p M card
  read_off card is m sound behind =
      let at : ℕ = record_start card in
      let z = off_bytes card is m in
      let n = off_numbers f M sound behind card is m in
      record {
        next = zero16 p at (at + 24) z at (omega arith) (omega arith) ∙ sym n.next;
        setup = zero16 p at (at + 24) z (at + 2) (omega arith) (omega arith) ∙ sym n.setup;
        duration = zero32 p at (at + 24) z (at + 4) (omega arith) (omega arith) ∙ sym n.duration;
        opens = zero32 p at (at + 24) z (at + 8) (omega arith) (omega arith) ∙ sym n.opens;
        closes = zero32 p at (at + 24) z (at + 12) (omega arith) (omega arith) ∙ sym n.closes;
        held_opens = zero32 p at (at + 24) z (at + 16) (omega arith) (omega arith) ∙ sym n.held_opens;
        held_closes = zero32 p at (at + 24) z (at + 20) (omega arith) (omega arith) ∙ sym n.held_closes;
      }

  -- every number of an accepted page is the sheet's
  pub read_reading : Sound M.book → Behind f M → Reading p M
  read_reading sound behind =
      let a = agreed p M r.same in
      record {
        version = r.version;
        setups = sym setups_is;
        first = linked_first p (le16 p 4) r.cards (links_linked p r.cards r.linked).1 ∙ ap first_of (sym chain_is);
        status = a.0;
        rounds = a.1;
        changeovers = read_changeovers;
        cards = λ card is.
            ⊎_elim
            (λ m. read_on card is (ap (member card) (sym chain_is) ∙ m))
            (λ m. read_off card is m sound behind)
            (cases_Bool (member card M.book.chain));
      }

-- A LOADED PAGE SAVES AS THE SAME BYTES
pub saves_same : (f : Meaning) (p : List ℕ) → Bytes p → SavesSame f p
saves_same f p bytes M e =
    let r = read_facts f p M e in
    reading_page M p bytes r.size (read_reading f p M r (read_sound f p M e) (read_behind f p M e))

-- A SAVED PAGE LOADS AS THE SAME SHEET
pub loads_same : (M : Model) → Sound M.book → M.rounds < 2 ^ 32 → LoadsSame M
loads_same M sound rounds f law behind =
    read_from f (page_of M) M
    (reading_read f (page_of M) M (page_long M) (page_reading M (sheet_small f law M sound behind rounds)) sound behind)
