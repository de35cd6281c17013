use Rattle.jd_model.proofs.ProblemBack.{problem-back}
use Rattle.jd_problem.specs.Problems.{problem_of}
use Rattle.jd_problem.proofs.problem_writer.write_problem.Goals as goal

pub returns-clause-reads_back : goal.returns-clause-reads_back
returns-clause-reads_back g c = problem-back (problem_of c.args.problem.now) c.problem_text.ensures.ranges
