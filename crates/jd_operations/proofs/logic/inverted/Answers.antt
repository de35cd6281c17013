use Rattle.std.proofs.Common.{◌≡◌, ◌-◌, ◌^◌, length, ap, arith}
use Rattle.hp_model.specs.WordOperations.{plain}
use Rattle.jd_vectors.specs.Number.{number}
use Rattle.jd_operations.proofs.logic.inverted.Goals as goal

pub returns-clause-fits : goal.returns-clause-fits
returns-clause-fits c = λ n h. rw c.plain.ensures (record {
  pattern = record { size = c.not_lits.ensures.length; inside = c.not_lits.ensures.inside n h };
  carry = tt;
  range = tt;
})

pub returns-clause-meaning : goal.returns-clause-meaning
returns-clause-meaning c = λ val.
    let others : number val c.not_lits.result ≡ 2 ^ length c.args.x.now - 1 - number val c.args.x.now = omega (arith, c.not_lits.ensures.number val) in
    rw c.plain.ensures (ap plain others)
