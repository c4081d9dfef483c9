-- What an accepted call makes of status, rounds and held windows. Assumes nothing.
use Rattle.rules.specs.Models.{Model, reopened}
use Rattle.sheet.specs.declared.accepted.Accepted.{Accepted}
use Rattle.sheet.specs.declared.accepted.Accepted.TheVariants.{Posted, Narrowed, Withdrawn, Settled}

-- the book has changed already: it is open again; or it is settled
abbrev pub accepting : Model → Accepted → Model
accepting M Posted = reopened M.book
accepting M Narrowed = reopened M.book
accepting M Withdrawn = reopened M.book
accepting M (Settled status rounds held) = record { book = M.book; held = held; status = status; rounds = rounds }
