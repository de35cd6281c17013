-- Answers to the questions of an operation, so far.
use Rattle.std.specs.Prelude.{◌≡◌, ◌⊎◌, Bool, true, List, Some}
use Rattle.hp_model.specs.Questions.{Question, are_complete, next_question}

-- they are all of them, or one more is asked
abbrev pub AreSoFar : List Question → List Bool → Type 0
AreSoFar qs given = (are_complete qs given ≡ true) ⊎ ((q : Question) × (next_question qs given ≡ Some q))
