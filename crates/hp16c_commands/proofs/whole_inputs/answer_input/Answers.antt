use Rattle.hp16c_commands.specs.Answered.{answer_of}
use Rattle.hp16c_commands.proofs.AnswersGiven.{told-given}
use Rattle.hp16c_commands.proofs.CutShort.{cut_short}
use Rattle.hp16c_commands.proofs.whole_inputs.answer_input.Goals as goal

pub returns-in-Err-clause-write_fault : goal.returns-in-Err-clause-write_fault
returns-in-Err-clause-write_fault g c =
    let part = c.write.ensures.part in
    λ _. cut_short _ _ _ _ _ _ part.0 c.in-Ok.ensures.answer part.1

pub returns-in-Ok-write-clause-told : goal.returns-in-Ok-write-clause-told
returns-in-Ok-write-clause-told g c =
    told-given _ _ _ _ (answer_of c.in-Ok.answer) _ c.outcome.ensures c.in-Ok.ensures.told c.in-Ok-write.ensures.whole
