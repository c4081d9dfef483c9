-- What a reading reads. Assumes nothing.
use Rattle.rules.specs.Faces.{Face as Shown}
use Rattle.face.specs.declared.reading.Reading.{Reading}
use Rattle.face.specs.Shown.{shown}

-- the face that was read
abbrev pub read : {W : Type 0} → Reading W → Shown
read R = shown R.orders.face

-- the bound that was read with it
abbrev pub bound_of : {W : Type 0} → Reading W → W
bound_of R = R.bound.now
