use Rattle.std.proofs.Common.{[], ◌∷◌, refl}
use Rattle.rules.specs.Histories.{made}
use Rattle.rules.proofs.Promised.{kept_made}
use Rattle.sheet.specs.Shown.{shown}
use Rattle.sheet.proofs.sheet.Sheet.blank.Goals as goal

pub returns : goal.returns
returns c = kept_made (made 1 (0 ∷ [])) (shown c.fresh.result) refl c.fresh.ensures
