use Rattle.std.proofs.Common.{◌≡◌, ℕ, ◌<◌, List, length, get_or}
use Rattle.rules.specs.Cards.{rising_to}
use Rattle.rules.specs.Books.{no_window}
use Rattle.sheet.proofs.Ranks.{so_far}
use Rattle.sheet.proofs.sheet.in_order.by_card.Given as goal

abbrev pub invariant-loop-j : goal.invariant-loop-j
invariant-loop-j l = record {
  long : length l.all ≡ 32;
  each : (chain : List ℕ) → l.card-items ≡ rising_to chain 32 → (k : ℕ) → k < 32 → get_or l.all k no_window ≡ so_far chain l.windows l.j k;
}
