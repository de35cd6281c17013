-- An answer as callers see it. It stands apart from `Told`, which the type of an answer needs itself.
use Rattle.hp16c_commands.specs.declared.told.Answer.{Answer as AnswerTold}
use Rattle.hp16c_commands.specs.Answers.{Answer}
use Rattle.hp16c_commands.specs.Told.{answer_told}

abbrev pub answer_of : AnswerTold → Answer
answer_of answer = answer_told answer.told
