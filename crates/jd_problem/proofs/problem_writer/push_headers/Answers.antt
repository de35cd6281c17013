use Rattle.jd_model.specs.ProblemWriter.{version, machine_lines, memory_lines, bound_lines}
use Rattle.jd_problem.specs.Problems.{problem_of}
use Rattle.jd_problem.proofs.WholeTexts.{whole-headers}
use Rattle.jd_problem.proofs.problem_writer.push_headers.Goals as goal

pub returns-clause-text : goal.returns-clause-text
returns-clause-text c =
    let p = problem_of c.args.problem.now in
    rw (c.push_bounds.ensures.text, c.push_memory.ensures.text, c.push_machine.ensures.text, c.version-version.ensures)
    (whole-headers c.args.text.now.bytes (machine_lines (version p) p) (memory_lines (version p) p.memory) (bound_lines p))
