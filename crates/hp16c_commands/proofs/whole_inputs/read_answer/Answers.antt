use Rattle.hp16c_commands.proofs.AnswersGiven.{ok-ends, ok-no-usage, ok-told}
use Rattle.hp16c_commands.proofs.whole_inputs.read_answer.Goals as goal

pub returns-clause-ends : goal.returns-clause-ends
returns-clause-ends g c = ok-ends _ _ _ _ c.find_in_source.ensures.answer

pub returns-clause-no_usage : goal.returns-clause-no_usage
returns-clause-no_usage g c = ok-no-usage _ _ _ _ c.find_in_source.ensures.answer

pub returns-clause-told : goal.returns-clause-told
returns-clause-told g c = ok-told _ _ _ _ c.find_in_source.ensures.answer
