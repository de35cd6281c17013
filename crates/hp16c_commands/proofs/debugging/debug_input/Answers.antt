use Rattle.std.proofs.Common.{◌≤◌, ◌+◌, length, ap, sym, subst, ◌∙◌, Ok}
use Rattle.hp_io.specs.Limited.{Takes}
use Rattle.hp16c_commands.specs.declared.outcomes.Outcome.{Outcome}
use Rattle.hp16c_commands.proofs.CutShort.{cut-script, cut-limit}
use Rattle.hp16c_commands.proofs.debugging.debug_input.Goals as goal

pub returns-in-Ok-Whole-clause-write_fault : goal.returns-in-Ok-Whole-clause-write_fault
returns-in-Ok-Whole-clause-write_fault g c is =
    let rest = rw c.in-Ok-Whole.field-0-is at c.in-Ok-Whole.ensures.whole in
    let few = rw c.in-Ok-Whole.field-0-is at c.in-Ok-Whole.ensures.within in
    cut-script _ _ _ _ c.in-Ok-Whole.bytes rest (subst (λ k. length c.in-Ok-Whole.bytes ≤ k) c.limit.ensures few)
    (c.debug_bytes.ensures.write_fault (sym (ap (λ (o : Outcome). o.status) c.of.ensures) ∙ is))

pub returns-in-Err-clause-write_fault : goal.returns-in-Err-clause-write_fault
returns-in-Err-clause-write_fault g c is =
    let left = g.S.Source.left in
    let took = c.in-Ok-TooLong.ensures.too_long (ap Ok c.in-Ok-TooLong.field-0-is) in
    cut-limit _ _ _ _ (subst (λ k. Takes (k + 1) (left c.args.source.now) (left c.read_limited.new.source)) c.limit.ensures took) c.write_too_long.ensures.part
