use Rattle.std.proofs.Common.{arith}
use Rattle.hp_ops.specs.Meaning.{named}
use Rattle.hp_model.proofs.CompleteAnswers.{label-few}
use Rattle.hp_control.proofs.targets.target_line.Goals as goal

pub number_given-requires : goal.number_given-requires
number_given-requires g c = omega (arith, label-few (named c.args.target) c.args.given.now c.requires.complete)

pub overflow_cast-label : goal.overflow_cast-label
overflow_cast-label g c =
    let few = label-few (named c.args.target) c.args.given.now c.requires.complete in
    omega (arith, c.number_given.ensures.bound 4 few)

pub invariant_of-label : goal.invariant_of-label
invariant_of-label g c =
    let few = label-few (named c.args.target) c.args.given.now c.requires.complete in
    record { in_range = omega (arith, c.number_given.ensures.bound 4 few) }
