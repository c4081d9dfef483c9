-- The links of a page, one after another. Assumes nothing.
use Rattle.std.proofs.Common.{◌≡◌, ℕ, zero, suc, ◌+◌, ◌-◌, ◌<◌, ◌≤◌, true, false, cond, ◌≢◌, List, [], ◌∷◌, ◌++◌, length, Ok, Err, sym, refl, ap, ◌∙◌, arith, length-take}
use Rattle.std.proofs.lemmas.List.{length-append}
use Rattle.std.proofs.lemmas.Bool.{ne_eqb, eq-eqb}
use Rattle.chain.specs.declared.chain.Chain.{Chain}
use Rattle.chain.specs.Listed.{cards, can_join}
use Rattle.rules.specs.declared.faults.ChainFault.TheVariants.{Link}
use Rattle.rules.specs.Faults.{record_start}
use Rattle.rules.specs.Pages.{le16, links_from}

pub cards_few : (chain : Chain) → length (cards chain) ≤ 32
cards_few chain = simp length-take (omega (arith, chain.few))

module _ (p met : List ℕ) (card link : ℕ) where
  -- a link to 0 ends the chain
  pub ends : (n : ℕ) → link ≡ 0 → links_from p n met card link ≡ Ok met
  ends zero e = refl
  ends (suc n) e = rw (eq-eqb link 0 e)

  -- a link to what cannot join is the fault
  pub stops : (n : ℕ) → 0 < n → link ≢ 0 → can_join link met ≡ false → links_from p n met card link ≡ Err (Link card link)
  stops zero h ne no_join = absurd (omega arith)
  stops (suc n) h ne no_join = rw (ne_eqb link 0 ne, no_join)

  -- any other goes on from its card
  pub goes : (n : ℕ) → 0 < n → link ≢ 0 → can_join link met ≡ true → links_from p n met card link ≡ links_from p (n - 1) (met ++ link ∷ []) link (le16 p (record_start link))
  goes zero h ne joins = absurd (omega arith)
  goes (suc n) h ne joins =
      let less : suc n - 1 ≡ n = omega arith in
      rw (ne_eqb link 0 ne, joins) (ap (λ (k : ℕ). links_from p k (met ++ link ∷ []) link (le16 p (record_start link))) (sym less))

-- the chain with one card more
pub more : (chain chain' : Chain) (link : ℕ) → can_join link (cards chain) ≡ true → cards chain' ≡ cond (can_join link (cards chain)) (cards chain ++ link ∷ []) (cards chain) → cards chain' ≡ cards chain ++ link ∷ []
more chain chain' link joins after = after ∙ rw joins

pub longer : (chain chain' : Chain) (link : ℕ) → cards chain' ≡ cards chain ++ link ∷ [] → length (cards chain') ≡ length (cards chain) + 1
longer chain chain' link e = ap length e ∙ length-append (cards chain) (link ∷ [])
