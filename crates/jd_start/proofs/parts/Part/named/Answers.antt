use Rattle.std.proofs.Common.{sym, ap, ◌∙◌, []}
use Rattle.jd_text.specs.Words.{is_text}
use Rattle.jd_model.specs.ProblemLines.{part_names}
use Rattle.jd_start.proofs.Searches.{found-later}
use Rattle.jd_start.proofs.parts.Part.named.Goals as goal

pub loop-place-preserved : goal.loop-place-preserved
loop-place-preserved c =
    let word = c.args.word.now in
    found-later (λ name. is_text name word) part_names c.loop-place.place c.loop-place.invariant [] c.loop-place-test.true
    (ap (λ name. is_text name word) (sym (c.as_bytes.ensures.value ∙ c.part_name.ensures.name)) ∙ sym c.eq.ensures ∙ c.if-eq.false)
