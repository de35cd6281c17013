use Rattle.std.proofs.Common.{arith}
use Rattle.std.proofs.lemmas.Grind.{common_steps}
use Rattle.jd_problem.specs.Problems.{problem_of}
use Rattle.jd_start.specs.Starts.{start_data}
use Rattle.jd_problem.proofs.StartsAllowed.{started-allowed}
use Rattle.jd_problem.proofs.start_reader.read_start.Goals as goal

started : goal.returns-clause-start
started c = grind (arith, common_steps)

pub returns-clause-start : goal.returns-clause-start
returns-clause-start c = started c

pub returns-clause-allowed : goal.returns-clause-allowed
returns-clause-allowed c = started-allowed (problem_of c.args.problem.now) c.args.bytes.now (start_data c.into_start.result) (started c)
