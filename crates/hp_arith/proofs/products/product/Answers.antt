use Rattle.std.proofs.Common.{◌^◌, ◌*ℤ◌, FitsSigned, lit<}
use Rattle.std.specs.Int.{w128}
use Rattle.std.proofs.lemmas.Int.{to_z-of_z, fits_signed_mul}
use Rattle.hp_arith.proofs.products.product.Goals as goal

pub returns : goal.returns
returns c =
    let y = c.args.y in
    let x = c.args.x in
    let fits : FitsSigned w128 (y *ℤ x) = fits_signed_mul w128 y x (2 ^ 63) (2 ^ 63) c.requires.first c.requires.second (lit< tt) in
    rw (to_z-of_z w128 y c.ranges.y, to_z-of_z w128 x c.ranges.x) (to_z-of_z w128 (y *ℤ x) fits)
