use Rattle.std.proofs.Common.{ℕ, zero, suc, ◌≡◌, get_or, slice_set, replicate, refl, ap, ◌∙◌, length, arith, length-set}
use Rattle.std.proofs.lemmas.List.FromFn.{fill_by_all}
use Rattle.rules.specs.Books.{no_window}
use Rattle.sheet.specs.Read.{after_place, by_card_of}
use Rattle.sheet.proofs.Ranks.{so_far, start, more, end}
use Rattle.sheet.proofs.sheet.in_order.by_card.Goals as goal

none_at : (n k : ℕ) → get_or (replicate n no_window) k no_window ≡ no_window
none_at zero k = refl
none_at (suc n) zero = refl
none_at (suc n) (suc k) = none_at n k

pub loop-j-init : goal.loop-j-init
loop-j-init c = record { long = refl; each = λ chain _ k _. none_at 32 k ∙ start chain c.args.windows.now k }

pub loop-j-preserved : goal.loop-j-preserved
loop-j-preserved c =
    let so_far = c.loop-j.invariant in
    let written = ap (λ i. slice_set c.loop-j.all i (get_or c.args.windows.now c.loop-j.j no_window)) c.from_zero.ensures in record {
      long = simp length-set so_far.long;
      each = λ chain is k h.
          ap (λ xs. get_or xs k no_window) written
          ∙ more chain c.args.windows.now c.loop-j.all c.loop-j.j _ k (omega (arith, ap length is)) (ap (λ xs. get_or xs c.loop-j.j 0) is) so_far.long h (so_far.each chain is);
    }

pub returns : goal.returns
unfolding by_card_of
returns c = λ chain is.
    let items = c.cards-card-items.ensures.value ∙ is in
    let all = ap length items in
    fill_by_all (after_place chain c.args.windows.now) c.loop-j.all 32 no_window c.loop-j.invariant.long
    (λ k h. c.loop-j.invariant.each chain items k h ∙ ap (λ j. so_far chain c.args.windows.now j k) (omega (arith, all)) ∙ end chain c.args.windows.now k h)
