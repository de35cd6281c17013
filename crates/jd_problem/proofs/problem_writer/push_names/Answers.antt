use Rattle.std.proofs.Common.{arith, ap, ◌∙◌, ◌+◌, ◌++◌, ◌∷◌, [], cond, get_or, drop, false}
use Rattle.jd_model.specs.ProblemLines.{part_names}
use Rattle.jd_model.specs.ProblemWriter.{chosen}
use Rattle.jd_start.specs.Parts.{marks_of}
use Rattle.jd_start.specs.Written.{spaced}
use Rattle.jd_start.proofs.PartByPart.{goes-on}
use Rattle.jd_problem.proofs.PartLines.{names-next}
use Rattle.jd_problem.proofs.problem_writer.push_names.Goals as goal

pub loop-place-preserved : goal.loop-place-preserved
loop-place-preserved c =
    let l = c.loop-place in
    let marks = marks_of c.args.parts.now in
    record {
      text = goes-on l.text.bytes c.push_name.new.text.bytes (spaced (cond (get_or marks l.place false) (get_or part_names l.place [] ∷ []) []))
          (spaced (chosen (drop l.place marks) (drop l.place part_names))) (spaced (chosen (drop (l.place + 1) marks) (drop (l.place + 1) part_names)))
          (c.args.text.now.bytes ++ spaced (chosen marks part_names))
          (c.push_name.ensures.text
          ∙ ap (λ name. l.text.bytes ++ spaced (cond c.contains.result (name ∷ []) [])) c.part_name.ensures.name
          ∙ ap (λ marked. l.text.bytes ++ spaced (cond marked (get_or part_names l.place [] ∷ []) [])) (c.contains.ensures ∙ ap (λ k. get_or marks k false) c.part_at.ensures))
          (names-next marks part_names l.place c.loop-place-test.true) l.invariant.text;
      len = omega arith;
    }
