-- The bytes of a page. Assumes nothing.
use Rattle.std.specs.Prelude.{ℕ, List}
use Rattle.archive.specs.declared.page.Page.{Page}

abbrev pub bytes_of : Page → List ℕ
bytes_of page = page.bytes.now
