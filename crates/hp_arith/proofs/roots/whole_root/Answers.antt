use Rattle.hp_model.specs.WordOperations.{root}
use Rattle.hp_arith.proofs.Squares.{one_root}
use Rattle.hp_model.proofs.Roots.{root-is}
use Rattle.hp_arith.proofs.roots.whole_root.Goals as goal

pub returns-clause-value : goal.returns-clause-value
returns-clause-value c =
    let isqrt = c.isqrt.ensures in
    one_root c.args.n c.isqrt.result (root c.args.n) record { square_fits = isqrt.square_le; next_is_greater = isqrt.next_square_gt } (root-is c.args.n c.ranges.n.fits)
