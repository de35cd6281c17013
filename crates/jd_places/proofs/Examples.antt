-- What comes in at the top, worked by computation.
use Rattle.std.proofs.Common.{◌≡◌, true, false, refl}
use Rattle.hp_model.specs.declared.Mode.TheVariants.{Unsigned, Twos}
use Rattle.jd_places.specs.Shifts.{sign_of}

comes_in : sign_of 4 Twos 9 ≡ true
comes_in = refl

none_comes_in : sign_of 4 Unsigned 9 ≡ false
none_comes_in = refl
