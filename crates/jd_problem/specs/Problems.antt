-- A problem as the definitions see it.
use Rattle.jd_model.specs.Problems.{Problem as ProblemValue}
use Rattle.jd_problem.specs.declared.problem.Problem.{Problem}
use Rattle.jd_start.specs.Parts.{marks_of, values_of}

abbrev pub problem_of : Problem → ProblemValue
problem_of p = record {
  size = p.size.bits;
  mode = p.mode;
  base = p.base;
  memory = p.memory;
  steps = p.steps;
  paths = p.paths;
  budget = p.budget;
  observed = marks_of p.observed;
  fixed = values_of p.fixed;
  assumed = p.assumed;
  first = p.first;
  second = p.second;
}
