-- Control along a path of answers, through the run of the first routine and then that of the second.
use Rattle.std.specs.Prelude.{◌≡◌, ℕ, zero, suc, Bool, true, false, ◌&&◌, if◌then◌else◌, List, [], ◌∷◌, ◌++◌, length, take, Option, Some, None, ◌<◌}
use Rattle.std.specs.Bool.{beq}
use Rattle.hp_model.specs.declared.End.{End}
use Rattle.hp_model.specs.declared.Stop.TheVariants.{Go, Ended}
use Rattle.hp_model.specs.State.{Control, Data}
use Rattle.hp_model.specs.Questions.{Question, means_error, questions}
use Rattle.hp_model.specs.Run.{advanced, next_operation, control_done, run_answers}
use Rattle.jd_model.specs.Problems.{Problem}
use Rattle.jd_model.specs.Seen.{first_control, machine_at}

-- ---- a run

-- where control stands after some answers: it asks, or it is done with these answers left
pub data Reached (A : Type 0) : Type 0 where
  asking : Reached A
  reached : A → List Bool → Reached A

abbrev pub after_answer : Bool → Reached (List Bool) → Reached (List Bool)
after_answer answer asking = asking
after_answer answer (reached given path) = reached (answer ∷ given) path

-- the answers to some questions, from the front of a path
abbrev pub taken : List Question → List Bool → Reached (List Bool)
taken [] path = reached [] path
taken (q ∷ qs) [] = asking
taken (q ∷ qs) (answer ∷ path) =
    if means_error q && answer then reached (answer ∷ []) path else after_answer answer (taken qs path)

-- the questions of the next line, in order
abbrev pub line_questions : Control → List Question
line_questions c = questions (advanced c) (next_operation c)

-- a run of at most so many lines along a path: how it ends, None where it is late
abbrev pub along : ℕ → Control → List Bool → Reached (Option End)
along zero c path = reached None path
along (suc n) c path = elim (taken (line_questions c) path) [
  | asking ↦ asking
  | reached given rest ↦ (elim (control_done c given).1 [
    | Go ↦ along n (control_done c given).0 rest
    | Ended end ↦ reached (Some end) rest
  ])
]

-- ---- both runs

abbrev pub second_along : Problem → Reached (Option End) → Reached (Option End)
second_along p asking = asking
second_along p (reached end rest) = along p.steps (first_control p p.second) rest

-- control after a path
abbrev pub after_path : Problem → List Bool → Reached (Option End)
after_path p path = second_along p (along p.steps (first_control p p.first) path)

abbrev pub AsksAfter : Problem → List Bool → Type 0
AsksAfter p path = after_path p path ≡ asking

-- both runs have ended or are late, and no answer is left
abbrev pub OverAfter : Problem → List Bool → Type 0
OverAfter p path = (end : Option End) × (after_path p path ≡ reached end [])

-- control asks after each proper prefix of the path
abbrev pub IsWalked : Problem → List Bool → Type 0
IsWalked p path = (k : ℕ) → k < length path → AsksAfter p (take k path)

-- ---- the answers of a start

-- the answers of the first run and then those of the second
abbrev pub answers_of_start : Problem → Data → List Bool
answers_of_start p s =
    run_answers p.steps (machine_at p p.first s) ++ run_answers p.steps (machine_at p p.second s)

-- whether a path begins a list of answers
abbrev pub begins : List Bool → List Bool → Bool
begins [] answers = true
begins (b ∷ path) [] = false
begins (b ∷ path) (answer ∷ answers) = beq b answer && begins path answers

-- the path with its last no turned into yes and what follows dropped, if it has a no
abbrev pub next_path : List Bool → Option (List Bool)
next_path [] = None
next_path (b ∷ path) = elim (next_path path) [
  | Some next ↦ Some (b ∷ next)
  | None ↦ (elim b [ true ↦ None | false ↦ Some (true ∷ []) ])
]
