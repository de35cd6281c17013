-- What one number leaves of another, and what a square leaves, worked by computation.
use Rattle.std.proofs.Common.{◌≡◌, ℕ, Bool, true, false, [], ◌∷◌, refl, arith}
use Rattle.jd_circuit.specs.declared.literals.Lit.TheVariants.{Const, Var}
use Rattle.jd_muldiv.specs.Steps.{Rooted, Taken, is_zero}

-- a number is taken where it fits, and else all is left
fits : Taken 7 6 true 1
fits = record { where_it_fits = refl; sum = refl }

fits_whole : Taken 6 6 true 0
fits_whole = record { where_it_fits = refl; sum = refl }

is_too_great : Taken 5 6 false 5
is_too_great = record { where_it_fits = refl; sum = refl }

-- the root of 10 is 3, and 1 is left
root_of_ten : Rooted 10 3 1
root_of_ten = record { sum = refl; greatest = omega arith }

root_of_fifteen : Rooted 15 3 6
root_of_fifteen = record { sum = refl; greatest = omega arith }

zero_is : is_zero (Const false) ≡ true
zero_is = refl

variable_is_not : is_zero (Var 1) ≡ false
variable_is_not = refl
