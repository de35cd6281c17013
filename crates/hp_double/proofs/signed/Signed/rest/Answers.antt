use Rattle.std.proofs.Common.{◌≡◌, ◌%◌, ◌∙◌, arith, int_rem, rules}
use Rattle.std.proofs.lemmas.Int.{ints, quot-rem}
use Rattle.hp_model.specs.WordOperations.{rest_of}
use Rattle.hp_double.specs.Number.{number}
use Rattle.hp_double.proofs.signed.Signed.rest.Goals as goal

pub returns-clause-number : goal.returns-clause-number
returns-clause-number c =
    let y = number c.args.self in
    let x = number c.args.divisor in
    let left : int_rem y x ≡ rest_of y x = omega (arith, ints, quot-rem y x) in
    let cut : number record { negative = c.args.self.negative; magnitude = c.args.self.magnitude % c.args.divisor.magnitude } ≡ int_rem y x = search rules in
    cut ∙ left
