-- The readings of specs/Readings.antt hold, by computation. Assumes nothing.
use mathlib.Core.Path.{refl}
use Rattle.model.specs.Cases.{Hold}
use Rattle.model_pack.specs.Readings.{readings}

pub readings_hold : Hold readings
readings_hold = (refl, (refl, (refl, (refl, tt))))
