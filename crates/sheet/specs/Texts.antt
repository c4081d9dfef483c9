-- What is printed of a sheet. Assumes nothing.
use Rattle.std.specs.Prelude.{ℕ, List, ◌∷◌, ◌++◌}
use Rattle.std.specs.Fmt.{decimal}
use Rattle.std.specs.List.{flat_map}
use Rattle.rules.specs.Books.{job_on, posted_on}
use Rattle.rules.specs.Models.{Model, held_on}
use Rattle.rules.specs.Texts.{number_then, status_text, window_text}

-- of a card, on a line of its own: card, setup, duration, posted ends, held ends
abbrev pub card_line : Model → ℕ → List ℕ
card_line M card =
    let job = job_on M.book card in
    10 ∷ number_then card (number_then job.setup (number_then job.duration (window_text (posted_on M.book card) ++ 32 ∷ window_text (held_on M card))))

-- status and rounds, and a line for each job in chain order
abbrev pub sheet_text : Model → List ℕ
sheet_text M = status_text M.status ++ 32 ∷ (decimal M.rounds ++ flat_map (card_line M) M.book.chain)
