-- Why a line cannot be read, in words. Assumes nothing.
use Rattle.std.specs.Prelude.{ℕ, List, ◌++◌, codes}
use Rattle.kinds.specs.declared.words.Unnamed.{Unnamed}
use Rattle.kinds.specs.declared.words.Unnamed.TheVariants.{Missing, Unknown}
use Rattle.lines.specs.declared.unread.Unread.{Unread}
use Rattle.lines.specs.declared.unread.Unread.TheVariants.{NoSuchCommand, SetupsMissing, NumberMissing, BoundMissing, FileMissing, NoSuchBound, NoShort, NoLong, TooMany, Memory}

-- where no bound is named
abbrev pub of_unnamed : Unnamed → Unread
of_unnamed Missing = BoundMissing
of_unnamed (Unknown word) = NoSuchBound word

abbrev pub unread_text : Unread → List ℕ
unread_text (NoSuchCommand name) = codes "there is no command " ++ name.now
unread_text SetupsMissing = codes "make needs the number of setups"
unread_text NumberMissing = codes "a number is missing"
unread_text BoundMissing = codes "a kind of bound is missing"
unread_text FileMissing = codes "a file is missing"
unread_text (NoSuchBound word) = codes "there is no bound " ++ word.now
unread_text (NoShort word) = word.now ++ codes " is no whole number from 0 to 65535"
unread_text (NoLong word) = word.now ++ codes " is no whole number from 0 to 4294967295"
unread_text (TooMany word) = codes "nothing may follow, but " ++ (word.now ++ codes " does")
unread_text Memory = codes "there is no memory left for it"
