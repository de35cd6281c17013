-- Quotients by signs and magnitudes, worked by computation.
use Rattle.std.proofs.Common.{true, pos, neg_ℤ, refl}
use Rattle.jd_products.specs.Divisions.{DividedBy}

-- -7 by 2 is -3, and -1 is left
cut_towards_zero : DividedBy (neg_ℤ (pos 7)) (pos 2) true 3 true 1
cut_towards_zero = record { quotient = refl; rest = refl }
