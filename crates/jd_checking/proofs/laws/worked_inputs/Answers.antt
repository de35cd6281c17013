-- Each by computing it.
use Rattle.std.proofs.Common.{refl}
use Rattle.jd_checking.proofs.laws.worked_inputs.Goals as goal

pub returns : goal.returns
returns c = record {
  one_cut = refl;
  two_leaves = refl;
  lines_counted_on = refl;
  unended_leaf = refl;
  last_line_alone_missing = refl;
  no_certificate = refl;
  problem_first = refl;
  unended_problem = refl;
  nothing = refl;
}
