use Rattle.std.proofs.Common.{◌≡◌, arith}
use Rattle.std.specs.Prelude.{Ok}
use Rattle.std.proofs.lemmas.Grind.{common_steps}
use Rattle.jd_problem.specs.Problems.{problem_of}
use Rattle.jd_spec_texts.specs.SpecTexts.{spec_of}
use Rattle.jd_spec_texts.proofs.SpecLaws.{texts-say-specs}
use Rattle.jd_spec_texts.proofs.reader.read_spec.Goals as goal

pub invariant_of-result : goal.invariant_of-result
invariant_of-result c =
    let problem = problem_of c.read_lines.new.reader.problem.problem in
    let gives = c.read_lines.new.reader.gives in
    let said : spec_of c.args.bytes.now ≡ Ok (problem, gives) = grind (arith, common_steps) in
    let is = texts-say-specs c.args.bytes.now problem gives said in
    record {
      some = is.some;
      once = is.once;
      formulas = is.formulas;
      unobserved = is.unobserved;
      no_second = is.no_second;
    }
