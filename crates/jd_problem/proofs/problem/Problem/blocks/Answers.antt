use Rattle.jd_problem.proofs.ProblemRanges.{is-problem}
use Rattle.jd_problem.proofs.problem.Problem.blocks.Goals as goal

pub returns-clause-ranges : goal.returns-clause-ranges
returns-clause-ranges c = is-problem c.args.self.now c.blocks_of.ensures.routine c.blocks_of-2.ensures.routine
