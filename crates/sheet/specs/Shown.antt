-- What a sheet shows. Assumes nothing.
use Rattle.rules.specs.Books.{Book}
use Rattle.rules.specs.Models.{Model}
use Rattle.chain.specs.Listed.{cards}
use Rattle.sheet.specs.declared.sheet.Sheet.{Sheet}

-- its job book
abbrev pub book_of : Sheet → Book
book_of s = record { setups = s.setups; changeovers = s.changeovers; chain = cards s.chain; jobs = s.jobs; posted = s.posted }

-- all of it
abbrev pub shown : Sheet → Model
shown s = record { book = book_of s; held = s.held; status = s.status; rounds = s.rounds }
