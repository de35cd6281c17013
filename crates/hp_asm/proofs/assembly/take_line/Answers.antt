use Rattle.std.proofs.Common.{subst, sym, ◌∙◌}
use Rattle.jd_text.specs.Readings.{Takes}
use Rattle.hp_asm.proofs.LinesTaken.{with_line-begun}
use Rattle.hp_asm.proofs.assembly.take_line.Goals as goal

pub returns-then-begins_text-clause-takes : goal.returns-then-begins_text-clause-takes
returns-then-begins_text-clause-takes c =
    subst (λ due. Takes due c.take_operation.result c.take_operation.new.routine)
    (sym (with_line-begun c.args.routine.now c.args.line.now c.in-Some.word.now c.in-Some.field-0-1 c.in-Some.ensures
    (sym c.is_float_key.ensures ∙ c.if-is_float_key.false) (sym c.begins_text.ensures ∙ c.if-begins_text.true)))
    c.take_operation.ensures.takes
