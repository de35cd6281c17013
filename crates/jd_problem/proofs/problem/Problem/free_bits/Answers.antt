use Rattle.std.proofs.Common.{ap, ◌∙◌, arith}
use Rattle.jd_model.specs.Problems.{free_widths}
use Rattle.jd_problem.specs.Problems.{problem_of}
use Rattle.jd_problem.proofs.FieldLists.{free_bits-sum, free_bits-most}
use Rattle.jd_problem.proofs.problem.Problem.free_bits.Goals as goal

pub returns-clause-bound : goal.returns-clause-bound
returns-clause-bound c =
    let p = problem_of c.args.self.now in
    let first = c.free_widths.ensures.value ∙ ap free_widths c.content_fields.ensures in
    omega (arith, first, free_bits-sum p, free_bits-most p c.args.self.now.size.at_most_64 (omega arith))
