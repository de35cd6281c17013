use Rattle.std.proofs.Common.{◌≡◌, ◌∙◌, arith, int_rem}
use Rattle.std.specs.Int.{w128}
use Rattle.std.proofs.lemmas.Int.{ints, rem_is, quot-rem}
use Rattle.hp_model.specs.WordOperations.{rest_of}
use Rattle.hp_arith.proofs.quotients.rest.Goals as goal

pub returns : goal.returns
returns c =
    let y = c.args.y in
    let x = c.args.x in
    let left : int_rem y x ≡ rest_of y x = omega (arith, ints, quot-rem y x) in
    rem_is w128 y x c.ranges.y c.ranges.x ∙ left
