use Rattle.std.proofs.Common.{ap, ◌∙◌, arith}
use Rattle.jd_model.specs.Problems.{are_fixed_from}
use Rattle.jd_start.specs.Parts.{place_of, values_of}
use Rattle.jd_problem.proofs.FixedParts.{are_fixed-set}
use Rattle.jd_problem.proofs.problem_lines.fix.Goals as goal

pub invariant_of-problem-clause-fixed_within : goal.invariant_of-problem-clause-fixed_within
invariant_of-problem-clause-fixed_within c =
    let p = c.args.problem.now in
    ap (are_fixed_from p.size.bits 0) c.set.ensures
    ∙ are_fixed-set p.size.bits 0 (values_of p.fixed) (place_of c.args.part) (place_of c.args.part) c.args.value (omega arith) p.fixed_within c.requires
