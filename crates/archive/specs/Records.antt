-- The record of a card. Assumes nothing.
use Rattle.std.specs.Prelude.{ℕ, List}
use Rattle.rules.specs.Faults.{record_start}
use Rattle.rules.specs.Pages.{le16, le32, job_in, posted_in, held_in}
use Rattle.archive.specs.declared.page.record.Record.{Record}

-- the record that a part of a page begins with
abbrev pub record_from : List ℕ → Record
record_from part = record {
  next = le16 part 0;
  job = record { setup = le16 part 2; duration = le32 part 4 };
  posted = record { early = le32 part 8; late = le32 part 12 };
  held = record { early = le32 part 16; late = le32 part 20 };
}

-- the record of a card on a page
abbrev pub record_in : List ℕ → ℕ → Record
record_in p card = record { next = le16 p (record_start card); job = job_in p card; posted = posted_in p card; held = held_in p card }
