use Rattle.hp_model.specs.Run.{advanced, next_operation}
use Rattle.hp_model.proofs.CompleteAnswers.{answers-complete, complete-asks, none-complete, last_answer-complete, complete-few, size-few, label-few}
use Rattle.hp_model.proofs.laws.complete_answers.Goals as goal

pub returns : goal.returns
returns c = record {
  of_data = answers-complete;
  of_line = λ m. answers-complete (advanced m.control) (next_operation m.control) m.contents;
  ask_no_more = complete-asks;
  none_asked = none-complete;
  last_given = last_answer-complete;
  few = complete-few;
  few_for_size = size-few;
  few_for_goto = λ c. label-few;
  few_for_gosub = λ c. label-few;
}
