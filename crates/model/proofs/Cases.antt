-- The cases of specs/Cases.antt hold, by computation. Assumes nothing.
use mathlib.Core.Path.{refl}
use Rattle.model.specs.Cases.{Hold, cases, program, readings}

pub fourteen_cases : Hold cases
fourteen_cases = (refl, (refl, (refl, (refl, (refl, (refl, (refl, (refl, (refl, (refl, (refl, (refl, (refl, (refl, tt))))))))))))))

pub program_prints : Hold program
program_prints = (refl, (refl, (refl, (refl, tt))))

pub readings_hold : Hold readings
readings_hold =
    (refl, (refl, (refl, (refl, (refl, (refl, (refl, (refl, (refl, (refl, (refl, (refl, (refl, (refl, (refl, (refl, (refl, (refl, (refl, (refl, (refl, (refl, tt))))))))))))))))))))))
