-- A walk along a path, in one of the two runs: what holds of control and of each start that comes to it.
use Rattle.std.specs.Prelude.{◌≡◌, ℕ, true, false, List, [], ◌++◌, Bool, Option, Some, None}
use Rattle.hp_model.specs.declared.End.{End}
use Rattle.hp_model.specs.State.{Control, Data, Machine}
use Rattle.hp_model.specs.Questions.{Question, next_question}
use Rattle.hp_model.specs.DataStep.{data_step}
use Rattle.hp_model.specs.Run.{next_operation, advanced, run, run_answers}
use Rattle.jd_model.specs.Problems.{Problem}
use Rattle.jd_model.specs.Problems.{in_range}
use Rattle.jd_model.specs.Seen.{Seen, late, ended, seen, machine_at}
use Rattle.jd_books.specs.Paths.{line_questions, Reached, reached, taken, along, second_along, after_path, answers_of_start, begins}

-- a machine with this control and data
abbrev pub machine_of : Control → Data → Machine
machine_of c d = record { control = c; contents = d }

-- the data after the next line
abbrev pub data_done : Control → List Bool → Data → Data
data_done c given d = data_step (advanced c) (next_operation c) given d

-- the question that the next line asks after some answers
abbrev pub OpenQuestion : Control → List Bool → Question → Type 0
OpenQuestion c given q = next_question (line_questions c) given ≡ Some q

-- the answers are all that the next line asks for
abbrev pub IsTaken : Control → List Bool → Type 0
IsTaken c given = (rest : List Bool) → taken (line_questions c) (given ++ rest) ≡ reached given rest

-- ---- the two runs

-- what comes of control after a run, the answers that a start gives after it, and the run from a start
abbrev pub routine_of : Problem → Bool → List ℕ
routine_of p false = p.first
routine_of p true = p.second

abbrev pub after_run : Problem → Bool → Reached (Option End) → Reached (Option End)
after_run p false r = second_along p r
after_run p true r = r

abbrev pub answers_after : Problem → Bool → Data → List Bool
answers_after p false s = run_answers p.steps (machine_at p p.second s)
answers_after p true s = []

abbrev pub run_of : Problem → Bool → Data → Option End × Machine
run_of p second s = run p.steps (machine_at p (routine_of p second) s)

-- a start in range that comes to a path
abbrev pub Comes : Problem → List Bool → Data → Type 0
Comes p path s = (in_range p s ≡ true) × (begins path (answers_of_start p s) ≡ true)

-- Path so far, in one of the two runs, of which so many lines are left. `consumed` is the path before the next line,
-- `given` the answers to it so far, and `D` the data of a start here
pub record IsOnWay (p : Problem) (second : Bool) (path consumed given : List Bool) (left : ℕ) (c : Control) (D : Data → Data) : Type 0 where
  pub path_is : path ≡ consumed ++ given
  pub control : (rest : List Bool) → after_path p (path ++ rest) ≡ after_run p second (along left c (given ++ rest))
  pub answers : (s : Data) → Comes p path s → answers_of_start p s ≡ consumed ++ (run_answers left (machine_of c (D s)) ++ answers_after p second s)
  pub result : (s : Data) → Comes p path s → run_of p second s ≡ run left (machine_of c (D s))

-- what is seen of a run that ended like this, None where it is late
abbrev pub seen_as : Option End → Data → Seen
seen_as None d = late
seen_as (Some end) d = ended end d

-- the same where this run is over, with its end and the data of a start there
pub record IsOver (p : Problem) (second : Bool) (path : List Bool) (end : Option End) (D : Data → Data) : Type 0 where
  pub control : (rest : List Bool) → after_path p (path ++ rest) ≡ after_run p second (reached end rest)
  pub answers : (s : Data) → Comes p path s → answers_of_start p s ≡ path ++ answers_after p second s
  pub result : (s : Data) → Comes p path s → seen p (routine_of p second) s ≡ seen_as end (D s)
