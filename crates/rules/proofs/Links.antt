-- The links of a page, and the chain that they make. Assumes nothing.
use Rattle.std.proofs.Common.{◌≡◌, ℕ, zero, suc, ◌+◌, ◌<◌, true, false, not, eqb, List, [], ◌∷◌, ◌++◌, length, Ok, sym, refl, ap, ◌∙◌, subst, ⊎_elim, arith}
use Rattle.std.proofs.lemmas.List.{append-nil, append_assoc, length_push}
use Rattle.std.proofs.lemmas.Bool.{and_parts, or_cases, or_parts, or_from, or_left, or_right, not-true, eqb-true, eqb-false, eq-eqb, ne_eqb, cases_Bool, cond-true, cond-false, both_ways, true≢false}
use Rattle.rules.specs.Faults.{record_start}
use Rattle.rules.specs.Cards.{member, is_card, chained}
use Rattle.rules.specs.Pages.{first_of, next_in, le16, links_from, links}
use Rattle.rules.proofs.Chains.{card_within, chained_push, chain_few, parts}
use Rattle.rules.proofs.Sounds.{asked_true}

-- no card follows one that is not there
pub next_none : (ks : List ℕ) (x : ℕ) → member x ks ≡ false → next_in ks x ≡ 0
next_none [] x m = refl
next_none (k ∷ ks) x m =
    let q = or_parts (eqb x k) (member x ks) m in
    cond-false _ _ _ (ne_eqb k x (λ e. eqb-false x k q.0 (sym e))) ∙ next_none ks x q.1

member_mid : (k : ℕ) (met rest : List ℕ) → member k (met ++ k ∷ rest) ≡ true
member_mid k [] rest = or_left (eqb k k) (member k rest) (eq-eqb k k refl)
member_mid k (x ∷ met) rest = or_right (eqb k x) (member k (met ++ k ∷ rest)) (member_mid k met rest)

-- a card of a chain does not stand before itself
split : (met rest : List ℕ) (k : ℕ) → chained (met ++ k ∷ rest) ≡ true → (is_card k ≡ true) × (member k met ≡ false)
split [] rest k c = ((parts k rest c).card, refl)
split (x ∷ met) rest k c =
    let q = parts x (met ++ k ∷ rest) c in
    let r = split met rest k q.rest in (
      r.0,
      or_from (eqb k x) (member k met) (ne_eqb k x (λ e. both_ways _ q.alone (ap (λ y. member y (met ++ k ∷ rest)) (sym e) ∙ member_mid k met rest))) r.1,
    )

-- LINKED: from a link on, the links of a page lead through these cards, and then to 0
abbrev pub Linked : List ℕ → ℕ → List ℕ → Type 0
Linked p link [] = link ≡ 0
Linked p link (k ∷ ks) = (link ≡ k) × Linked p (le16 p (record_start k)) ks

module _ (p : List ℕ) where
  -- each link is the next card
  pub linked_first : (link : ℕ) (ks : List ℕ) → Linked p link ks → link ≡ first_of ks
  linked_first link [] l = l
  linked_first link (k ∷ ks) l = l.0

  pub linked_next : (link : ℕ) (ks : List ℕ) → Linked p link ks → (x : ℕ) → member x ks ≡ true → le16 p (record_start x) ≡ next_in ks x
  linked_next link [] l x m = absurd (true≢false (sym m))
  linked_next link (k ∷ ks) l x m =
      ⊎_elim
      (λ e.
      let same : k ≡ x = eqb-true k x e in
      ap (λ j. le16 p (record_start j)) (sym same) ∙ (linked_first _ ks l.1 ∙ sym (cond-true _ _ _ e)))
      (λ e.
      ⊎_elim
      (λ q. absurd (eqb-false k x e (sym (eqb-true x k q))))
      (λ q. linked_next (le16 p (record_start k)) ks l.1 x q ∙ sym (cond-false _ _ _ e))
      (or_cases (eqb x k) (member x ks) m))
      (cases_Bool (eqb k x))

  -- and where each is, they lead through the cards
  pub next_linked : (link : ℕ) (ks : List ℕ) → chained ks ≡ true → link ≡ first_of ks → ((x : ℕ) → member x ks ≡ true → le16 p (record_start x) ≡ next_in ks x) → Linked p link ks
  next_linked link [] c e each = e
  next_linked link (k ∷ ks) c e each =
      let q = parts k ks c in
      let here : eqb k k ≡ true = eq-eqb k k refl in (
        e,
        next_linked (le16 p (record_start k)) ks q.rest (each k (or_left (eqb k k) (member k ks) here) ∙ cond-true _ _ _ here)
            (λ x m.
            each x (or_right (eqb x k) (member x ks) m)
            ∙ cond-false _ _ _ (ne_eqb k x (λ s. both_ways _ q.alone (ap (λ y. member y ks) s ∙ m)))),
      )

  -- what question 15 accepts
  pub record Walked (met : List ℕ) (link : ℕ) (cards : List ℕ) : Type 0 where
    pub chain : chained cards ≡ true
    pub rest : List ℕ
    pub all : met ++ rest ≡ cards
    pub linked : Linked p link rest

  pub walked : (n : ℕ) (met : List ℕ) (card link : ℕ) (cards : List ℕ) → chained met ≡ true → length met + n ≡ 33 → links_from p n met card link ≡ Ok cards → Walked met link cards
  walked zero met card link cards c many e = absurd (omega (arith, chain_few met c))
  walked (suc n) met card link cards c many e =
      ⊎_elim
      (λ z.
      let same : met ≡ cards = cc (e, z) in
      record { chain = rw same at c; rest = []; all = append-nil met ∙ same; linked = eqb-true link 0 z })
      (λ z.
      let a = asked_true _ _ _ (rw z at e) in
      let b = and_parts (is_card link) (not (member link met)) a.0 in
      let w = walked n (met ++ link ∷ []) link (le16 p (record_start link)) cards (chained_push met link c b.0 (not-true (member link met) b.1)) (omega (arith, length_push met link)) a.1 in
      record { chain = w.chain; rest = link ∷ w.rest; all = sym (append_assoc met (link ∷ []) w.rest) ∙ w.all; linked = (refl, w.linked) })
      (cases_Bool (eqb link 0))

  -- and whatever is walked so is accepted
  pub walks : (n : ℕ) (met : List ℕ) (card link : ℕ) (rest : List ℕ) → chained (met ++ rest) ≡ true → length rest < n → Linked p link rest → links_from p n met card link ≡ Ok (met ++ rest)
  walks zero met card link rest c many l = absurd (omega arith)
  walks (suc n) met card link [] c many l = cond-true _ _ _ (eq-eqb link 0 l) ∙ ap Ok (sym (append-nil met))
  walks (suc n) met card link (k ∷ rest) c many l =
      let q = split met rest k c in
      let w = card_within k q.0 in
      let more = append_assoc met (k ∷ []) rest in
      let on = walks n (met ++ k ∷ []) k (le16 p (record_start k)) rest (ap chained more ∙ c) (omega arith) l.1 in
      rw (l.0, ne_eqb k 0 (λ z. omega arith), q.0, q.1) (on ∙ ap Ok more)

-- what is accepted is a chain that the links lead through
pub links_linked : (p cards : List ℕ) → links p ≡ Ok cards → (chained cards ≡ true) × Linked p (le16 p 4) cards
unfolding links
links_linked p cards e =
    let w = walked p 33 [] 0 (le16 p 4) cards refl refl e in (w.chain, subst (Linked p (le16 p 4)) w.all w.linked)

pub linked_links : (p cards : List ℕ) → chained cards ≡ true → Linked p (le16 p 4) cards → links p ≡ Ok cards
unfolding links
linked_links p cards c l = walks p 33 [] 0 (le16 p 4) cards c (omega (arith, chain_few cards c)) l
