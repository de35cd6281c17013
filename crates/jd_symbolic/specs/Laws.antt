-- How many gates an operation takes in all.
use Rattle.std.specs.Prelude.{ℕ, ◌+◌, ◌^◌, ◌≤◌, List, [], ◌∷◌}
use Rattle.hp_model.specs.Operations.{Operation}
use Rattle.hp_model.specs.State.{Control}
use Rattle.hp_model.specs.Questions.{Question, questions}
use Rattle.jd_questions.specs.Questions.{question_gates}

-- the gates that the literals of questions may take, one after another
abbrev pub questions_gates : List Question → ℕ
questions_gates [] = 0
questions_gates (q ∷ qs) = question_gates q + questions_gates qs

-- the literals of all that an operation asks and its step, which adds at most 2^17, take at most 2^18
abbrev pub OperationGates : Type 0
OperationGates = (k : Control) (op : Operation) → questions_gates (questions k op) + 2 ^ 17 ≤ 2 ^ 18
