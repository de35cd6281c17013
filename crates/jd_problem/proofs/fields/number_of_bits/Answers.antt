use Rattle.std.proofs.Common.{ap, ◌∙◌, arith, ◌+◌, ◌*◌}
use Rattle.jd_problem.proofs.Numbers.{number-turn, bound-turn}
use Rattle.jd_problem.proofs.fields.number_of_bits.Goals as goal

pub bits-preserved : goal.bits-preserved
bits-preserved c =
    let loop = c.bits in
    record {
      within = omega arith;
      value = ap (λ bit. 2 * loop.number + bit) c.bit_number.ensures.value
          ∙ number-turn c.args.bits.now loop.left loop.number c.bits-test.true loop.invariant.within loop.invariant.value;
      bound = bound-turn c.args.bits.now loop.left loop.number c.bits-test.true loop.invariant.within c.bit_number.result c.bit_number.ensures.bound loop.invariant.bound;
    }
