use Rattle.std.proofs.Common.{arith, ap, ◌∙◌, ◌+◌, ◌++◌, [], get_or, drop, None}
use Rattle.jd_text.specs.Words.{written}
use Rattle.jd_model.specs.ProblemLines.{part_names}
use Rattle.jd_model.specs.ProblemWriter.{fix_line, fix_lines}
use Rattle.jd_start.specs.Parts.{values_of}
use Rattle.jd_start.proofs.PartByPart.{goes-on}
use Rattle.jd_problem.proofs.PartLines.{fixed-next}
use Rattle.jd_problem.proofs.problem_writer.push_fixed.Goals as goal

pub loop-place-preserved : goal.loop-place-preserved
loop-place-preserved c =
    let l = c.loop-place in
    let values = values_of c.args.fixed.now in
    record {
      text = goes-on l.text.bytes c.push_fix.new.text.bytes (written (fix_line (get_or part_names l.place []) (get_or values l.place None)))
          (written (fix_lines (drop l.place part_names) (drop l.place values))) (written (fix_lines (drop (l.place + 1) part_names) (drop (l.place + 1) values)))
          (c.args.text.now.bytes ++ written (fix_lines part_names values))
          (c.push_fix.ensures.text
          ∙ ap (λ name. l.text.bytes ++ written (fix_line name c.value.result)) c.part_name.ensures.name
          ∙ ap (λ value. l.text.bytes ++ written (fix_line (get_or part_names l.place []) value)) (c.value.ensures ∙ ap (λ k. get_or values k None) c.part_at.ensures))
          (fixed-next part_names values l.place c.loop-place-test.true) l.invariant.text;
      len = omega arith;
    }
