-- Where the numbers of a sheet stand on its page, and what is read there. Assumes nothing.
use Rattle.std.proofs.Common.{◌≡◌, ℕ, zero, suc, ◌+◌, ◌-◌, ◌*◌, ◌/◌, ◌%◌, ◌<◌, true, List, [], ◌∷◌, ◌++◌, length, get_or, sym, refl, ap, ◌∙◌, subst, ⊎_elim, add-zero, zero-add, mul-suc, arith}
use Rattle.std.proofs.lemmas.Nat.{shr-shr}
use Rattle.std.proofs.lemmas.List.{length-append, get_or_append_left, get_or-append_right, get_or-append-add, ext_get_or}
use Rattle.std.proofs.lemmas.Bool.{cases_lt, cases_eq}
use Rattle.rules.specs.Faults.{record_start}
use Rattle.rules.specs.Cards.{is_card}
use Rattle.rules.specs.Books.{job_on, posted_on}
use Rattle.rules.specs.Models.{Model, held_on}
use Rattle.rules.specs.Pages.{bytes16, bytes32, status_number, first_of, next_in, joined, head_bytes, record_bytes, page_of, le16, le32, Bytes}
use Rattle.rules.proofs.Chains.{card_within, within_card}

-- the bytes of a list stand on a page, from a byte on
pub record Stands (p : List ℕ) (at : ℕ) (xs : List ℕ) : Type 0 where
  pub byte : (i : ℕ) → i < length xs → get_or p (at + i) 0 ≡ get_or xs i 0

module _ (p : List ℕ) where
  -- two lists stand one after the other where both do
  pub stands_append : (at next : ℕ) {xs ys : List ℕ} → Stands p at xs → Stands p next ys → at + length xs ≡ next → Stands p at (xs ++ ys)
  stands_append at next {xs} {ys} s t e = record {
    byte = λ i h.
        ⊎_elim
        (λ lt. s.byte i lt ∙ sym (get_or_append_left xs ys 0 i lt))
        (λ past.
        let there : at + i ≡ next + (i - length xs) = omega arith in
        let lt : i - length xs < length ys = omega (arith, length-append xs ys) in
        ap (λ j. get_or p j 0) there ∙ (t.byte (i - length xs) lt ∙ sym (get_or-append_right xs ys (length xs) i 0 refl past)))
        (cases_lt i (length xs));
  }

  pub stands_parts : (at next : ℕ) (xs ys : List ℕ) → Stands p at (xs ++ ys) → at + length xs ≡ next → Stands p at xs × Stands p next ys
  stands_parts at next xs ys s e = (
    record { byte = λ i h. s.byte i (omega (arith, length-append xs ys)) ∙ get_or_append_left xs ys 0 i h },
    record {
      byte = λ i h.
          let there : next + i ≡ at + (length xs + i) = omega arith in
          ap (λ j. get_or p j 0) there ∙ (s.byte (length xs + i) (omega (arith, length-append xs ys)) ∙ get_or-append-add xs ys i 0);
    },
  )

  -- a whole page
  pub stands_all : (xs : List ℕ) → length xs ≡ length p → Stands p 0 xs → xs ≡ p
  stands_all xs e s = ext_get_or 0 xs p e (λ i h. sym (s.byte i h) ∙ ap (λ j. get_or p j 0) (zero-add i))

  pub all_stands : Stands p 0 p
  all_stands = record { byte = λ i h. ap (λ j. get_or p j 0) (zero-add i) }

-- parts of one length, one after another
module _ (part : ℕ → List ℕ) (w : ℕ) (long : (k : ℕ) → length (part k) ≡ w) where
  pub joined_long : (n : ℕ) → length (joined part n) ≡ w * n
  unfolding joined
  joined_long zero = omega arith
  joined_long (suc n) = omega (arith, length-append (joined part n) (part n), joined_long n, long n, mul-suc w n)

  pub joined_stands : (p : List ℕ) (at n : ℕ) → ((k : ℕ) → k < n → Stands p (at + w * k) (part k)) → Stands p at (joined part n)
  unfolding joined
  joined_stands p at zero each = record { byte = λ i h. absurd (omega arith) }
  joined_stands p at (suc n) each =
      stands_append p at (at + w * n) (joined_stands p at n (λ k h. each k (omega arith))) (each n (omega arith)) (omega (arith, joined_long n))

  pub stands_joined : (p : List ℕ) (at n : ℕ) → Stands p at (joined part n) → (k : ℕ) → k < n → Stands p (at + w * k) (part k)
  unfolding joined
  stands_joined p at zero s k h = absurd (omega arith)
  stands_joined p at (suc n) s k h =
      let r = stands_parts p at (at + w * n) (joined part n) (part n) s (omega (arith, joined_long n)) in
      ⊎_elim (λ e. rw e r.1) (λ ne. stands_joined p at n r.0 k (omega arith)) (cases_eq k n)

-- NUMBERS: every number of a sheet at its place on the page, with what R says of one of 2 bytes and S of one of 4
pub record CardNumbers (R S : ℕ → ℕ → Type 0) (M : Model) (card : ℕ) : Type 0 where
  pub next : R (record_start card) (next_in M.book.chain card)
  pub setup : R (record_start card + 2) (job_on M.book card).setup
  pub duration : S (record_start card + 4) (job_on M.book card).duration
  pub opens : S (record_start card + 8) (posted_on M.book card).early
  pub closes : S (record_start card + 12) (posted_on M.book card).late
  pub held_opens : S (record_start card + 16) (held_on M card).early
  pub held_closes : S (record_start card + 20) (held_on M card).late

pub record Numbers (R S : ℕ → ℕ → Type 0) (M : Model) : Type 0 where
  pub version : R 0 1
  pub setups : R 2 M.book.setups
  pub first : R 4 (first_of M.book.chain)
  pub status : R 6 (status_number M.status)
  pub rounds : S 8 M.rounds
  pub changeovers : (k : ℕ) → k < 256 → R (12 + 2 * k) (get_or M.book.changeovers k 0)
  pub cards : (card : ℕ) → is_card card ≡ true → CardNumbers R S M card

-- what two say together, a third says
module _ {R S R₁ S₁ R₂ S₂ : ℕ → ℕ → Type 0} (M : Model) (r : (k x : ℕ) → R k x → R₁ k x → R₂ k x) (s : (k x : ℕ) → S k x → S₁ k x → S₂ k x) where
  pub card_from : (card : ℕ) → CardNumbers R S M card → CardNumbers R₁ S₁ M card → CardNumbers R₂ S₂ M card
  card_from card a b = record {
    next = r _ _ a.next b.next;
    setup = r _ _ a.setup b.setup;
    duration = s _ _ a.duration b.duration;
    opens = s _ _ a.opens b.opens;
    closes = s _ _ a.closes b.closes;
    held_opens = s _ _ a.held_opens b.held_opens;
    held_closes = s _ _ a.held_closes b.held_closes;
  }

  pub numbers_from : Numbers R S M → Numbers R₁ S₁ M → Numbers R₂ S₂ M
  numbers_from a b = record {
    version = r _ _ a.version b.version;
    setups = r _ _ a.setups b.setups;
    first = r _ _ a.first b.first;
    status = r _ _ a.status b.status;
    rounds = s _ _ a.rounds b.rounds;
    changeovers = λ k h. r _ _ (a.changeovers k h) (b.changeovers k h);
    cards = λ card is. card_from card (a.cards card is) (b.cards card is);
  }

-- each number stands on the page as its bytes
abbrev pub CardStanding : List ℕ → Model → ℕ → Type 0
CardStanding p M card = CardNumbers (λ k x. Stands p k (bytes16 x)) (λ k x. Stands p k (bytes32 x)) M card

abbrev pub Standing : List ℕ → Model → Type 0
Standing p M = Numbers (λ k x. Stands p k (bytes16 x)) (λ k x. Stands p k (bytes32 x)) M

-- each number is what is read at its place
abbrev pub CardReading : List ℕ → Model → ℕ → Type 0
CardReading p M card = CardNumbers (λ k x. le16 p k ≡ x) (λ k x. le32 p k ≡ x) M card

abbrev pub Reading : List ℕ → Model → Type 0
Reading p M = Numbers (λ k x. le16 p k ≡ x) (λ k x. le32 p k ≡ x) M

-- each number fits its bytes
abbrev pub Small : Model → Type 0
Small M = Numbers (λ k x. x < 65536) (λ k x. x < 4294967296) M

-- the three parts of a page: head, changeovers, records
module _ (M : Model) where
  abbrev changeover_parts : ℕ → List ℕ
  changeover_parts k = bytes16 (get_or M.book.changeovers k 0)

  abbrev record_parts : ℕ → List ℕ
  record_parts k = record_bytes M (k + 1)

  changeovers_long : length (joined changeover_parts 256) ≡ 512
  changeovers_long = joined_long changeover_parts 2 (λ k. refl) 256

  records_long : length (joined record_parts 32) ≡ 768
  records_long = joined_long record_parts 24 (λ k. refl) 32

  -- a page has 1,292 bytes
  pub page_long : length (page_of M) ≡ 1292
  unfolding page_of
  page_long =
      let cs = joined changeover_parts 256 in
      let rs = joined record_parts 32 in
      omega (arith, length-append (head_bytes M) (cs ++ rs), length-append cs rs, changeovers_long, records_long)

  module _ (p : List ℕ) where
    -- the record of a card, field by field
    card_stands : (card : ℕ) → CardStanding p M card → Stands p (record_start card) (record_bytes M card)
    card_stands card c =
        let at : ℕ = record_start card in
        stands_append p at (at + 2) c.next
        (stands_append p (at + 2) (at + 4) c.setup
        (stands_append p (at + 4) (at + 8) c.duration
        (stands_append p (at + 8) (at + 12) c.opens
        (stands_append p (at + 12) (at + 16) c.closes
        (stands_append p (at + 16) (at + 20) c.held_opens c.held_closes (omega arith))
        (omega arith))
        (omega arith))
        (omega arith))
        (omega arith))
        (omega arith)

    stands_card : (card : ℕ) → Stands p (record_start card) (record_bytes M card) → CardStanding p M card
    stands_card card s =
        let at : ℕ = record_start card in
        let a = stands_parts p at (at + 2) (bytes16 (next_in M.book.chain card)) _ s (omega arith) in
        let b = stands_parts p (at + 2) (at + 4) (bytes16 (job_on M.book card).setup) _ a.1 (omega arith) in
        let c = stands_parts p (at + 4) (at + 8) (bytes32 (job_on M.book card).duration) _ b.1 (omega arith) in
        let d = stands_parts p (at + 8) (at + 12) (bytes32 (posted_on M.book card).early) _ c.1 (omega arith) in
        let e = stands_parts p (at + 12) (at + 16) (bytes32 (posted_on M.book card).late) _ d.1 (omega arith) in
        let f = stands_parts p (at + 16) (at + 20) (bytes32 (held_on M card).early) _ e.1 (omega arith) in
        record { next = a.0; setup = b.0; duration = c.0; opens = d.0; closes = e.0; held_opens = f.0; held_closes = f.1 }

    -- a page where every number stands is the sheet's page
    pub standing_page : Standing p M → Stands p 0 (page_of M)
    unfolding page_of
    standing_page n =
        stands_append p 0 12
        (stands_append p 0 2 n.version
        (stands_append p 2 4 n.setups (stands_append p 4 6 n.first (stands_append p 6 8 n.status n.rounds refl) refl) refl) refl)
        (stands_append p 12 524
        (joined_stands changeover_parts 2 (λ k. refl) p 12 256 n.changeovers)
        (joined_stands record_parts 24 (λ k. refl) p 524 32
        (λ k h.
        let back : k + 1 - 1 ≡ k = omega arith in
        subst (λ j. Stands p (524 + 24 * j) (record_parts k)) back (card_stands (k + 1) (n.cards (k + 1) (within_card (k + 1) (omega arith) (omega arith))))))
        (omega (arith, changeovers_long)))
        refl

    pub page_standing : Stands p 0 (page_of M) → Standing p M
    unfolding page_of
    page_standing s =
        let a = stands_parts p 0 12 (head_bytes M) _ s refl in
        let b = stands_parts p 12 524 (joined changeover_parts 256) _ a.1 (omega (arith, changeovers_long)) in
        let version = stands_parts p 0 2 (bytes16 1) _ a.0 refl in
        let setups = stands_parts p 2 4 (bytes16 M.book.setups) _ version.1 refl in
        let first = stands_parts p 4 6 (bytes16 (first_of M.book.chain)) _ setups.1 refl in
        let status = stands_parts p 6 8 (bytes16 (status_number M.status)) _ first.1 refl in
        record {
          version = version.0;
          setups = setups.0;
          first = first.0;
          status = status.0;
          rounds = status.1;
          changeovers = stands_joined changeover_parts 2 (λ k. refl) p 12 256 b.0;
          cards = λ card is.
              let w = card_within card is in
              let back : card - 1 + 1 ≡ card = omega arith in
              stands_card card (rw back at (stands_joined record_parts 24 (λ k. refl) p 524 32 b.1 (card - 1) (omega arith)));
        }

-- WHAT IS READ: a number of 2 bytes, and of 4, that stands there
module _ (p : List ℕ) where
  -- the byte that a part begins with
  first_byte : (k : ℕ) {x : ℕ} {xs : List ℕ} → Stands p k (x ∷ xs) → get_or p k 0 ≡ x
  first_byte k s = ap (λ j. get_or p j 0) (sym (add-zero k)) ∙ s.byte 0 (omega arith)

  pub read16 : (k x : ℕ) → Stands p k (bytes16 x) → x < 65536 → le16 p k ≡ x
  read16 k x s h = omega (arith, first_byte k s, s.byte 1 (omega arith))

  whole32 : (x : ℕ) → x < 4294967296 → x % 256 + 256 * (x / 256 % 256) + 65536 * (x / 65536 % 256) + 16777216 * (x / 16777216 % 256) ≡ x
  whole32 x h =
      let a : x / 65536 ≡ x / 256 / 256 = sym (shr-shr x 8 8) in
      let b : x / 16777216 ≡ x / 256 / 256 / 256 = sym (shr-shr x 16 8) ∙ ap (λ n. n / 256) a in
      rw (b, a) (omega arith)

  pub read32 : (k x : ℕ) → Stands p k (bytes32 x) → x < 4294967296 → le32 p k ≡ x
  read32 k x s h = rw (first_byte k s, s.byte 1 (omega arith), s.byte 2 (omega arith), s.byte 3 (omega arith)) (whole32 x h)

  -- and the other way: on a page of bytes the number that is read stands there
  one_byte : (k x : ℕ) → get_or p k 0 ≡ x → Stands p k (x ∷ [])
  one_byte k x e = record {
    byte = λ i h.
        let none : i ≡ 0 = omega arith in
        let at : k + i ≡ k = omega arith in ap (λ j. get_or p j 0) at ∙ (e ∙ sym (ap (λ j. get_or (x ∷ []) j 0) none));
  }

  module _ (bytes : Bytes p) (k x : ℕ) where
    pub stand16 : le16 p k ≡ x → Stands p k (bytes16 x)
    stand16 e =
        let a = bytes k in
        let b = bytes (k + 1) in
        stands_append p k (k + 1) (one_byte k (x % 256) (omega arith)) (one_byte (k + 1) (x / 256 % 256) (omega arith)) refl

    pub stand32 : le32 p k ≡ x → Stands p k (bytes32 x)
    stand32 e =
        let a = bytes k in
        let b = bytes (k + 1) in
        let c = bytes (k + 2) in
        let d = bytes (k + 3) in
        stands_append p k (k + 1) (one_byte k (x % 256) (omega arith))
        (stands_append p (k + 1) (k + 2) (one_byte (k + 1) (x / 256 % 256) (omega arith))
        (stands_append p (k + 2) (k + 3) (one_byte (k + 2) (x / 65536 % 256) (omega arith)) (one_byte (k + 3) (x / 16777216 % 256) (omega arith)) (omega arith))
        (omega arith))
        refl

-- A SAVED PAGE is read as the numbers that were saved, where they fit
pub page_reading : (M : Model) → Small M → Reading (page_of M) M
page_reading M small =
    numbers_from M (read16 (page_of M)) (read32 (page_of M)) (page_standing M (page_of M) (all_stands (page_of M))) small

-- a page of bytes whose numbers are the sheet's is its page
pub reading_page : (M : Model) (p : List ℕ) → Bytes p → length p ≡ 1292 → Reading p M → page_of M ≡ p
reading_page M p bytes long r =
    stands_all p (page_of M) (page_long M ∙ sym long)
    (standing_page M p (numbers_from M (λ k x e _. stand16 p bytes k x e) (λ k x e _. stand32 p bytes k x e) r r))
