use Rattle.jd_model.proofs.StartBack.{start-back}
use Rattle.jd_problem.specs.Problems.{problem_of}
use Rattle.jd_start.specs.Starts.{start_data}
use Rattle.jd_problem.proofs.start_writer.write_start.Goals as goal

pub returns-clause-reads_back : goal.returns-clause-reads_back
returns-clause-reads_back g c =
    start-back (problem_of c.args.problem.now) (start_data c.args.start.now) c.args.problem.now.size.at_most_64 c.requires
