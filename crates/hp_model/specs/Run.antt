-- Runs: one line after another, to the end or to a bound.
use Rattle.std.specs.Prelude.{ℕ, zero, suc, ◌+◌, ◌-◌, min, Bool, nat_lt, if◌then◌else◌, List, [], ◌∷◌, ◌++◌, slice_index, Option, Some, None}
use Rattle.hp_model.specs.declared.End.{End}
use Rattle.hp_model.specs.declared.End.TheVariants.{Error}
use Rattle.hp_model.specs.declared.Stop.{Stop}
use Rattle.hp_model.specs.declared.Stop.TheVariants.{Go, Ended}
use Rattle.hp_model.specs.Operations.{Operation}
use Rattle.hp_model.specs.Operations as ops
use Rattle.hp_model.specs.Codes.{operation_of}
use Rattle.hp_model.specs.State.{Control, Machine, lines}
use Rattle.hp_model.specs.Questions.{IsComplete, answers}
use Rattle.hp_model.specs.ControlStep.{control_step}
use Rattle.hp_model.specs.DataStep.{data_step}

-- one operation done
pub record Step : Type 0 where
  pub machine : Machine
  pub stop : Stop

-- an operation on control, and on data that gives these answers
abbrev pub step_given : Control → Operation → List Bool → Machine → Step
step_given c op given m = record {
  machine = record { control = (control_step c op given).0; contents = data_step c op given m.contents };
  stop = (control_step c op given).1;
}

-- an operation with the answers of the machine's own data
abbrev pub operated : Operation → Machine → Step
operated op m = step_given m.control op (answers m.control op m.contents) m

-- ---- one line

-- the operation of the line to be done next. Past the last line stands an RTN
abbrev pub next_operation : Control → Operation
next_operation c =
    if nat_lt (lines c) c.line then ops.to_caller else operation_of (slice_index c.program (c.line - 1))

abbrev pub at_line_number : ℕ → Control → Control
at_line_number line c = record c { line = line }

-- while a line is done, the line number is that of the next one
abbrev pub advanced : Control → Control
advanced c = at_line_number (min (c.line + 1) (lines c + 1)) c

-- after an error the line number is again that of the line done
abbrev pub restored : ℕ → Control × Stop → Control × Stop
restored line (c, Ended (Error n)) = (at_line_number line c, Ended (Error n))
restored line (c, stop) = (c, stop)

-- these are answers to exactly what the next line asks
abbrev pub IsCompleteLine : Control → List Bool → Type 0
IsCompleteLine c given = IsComplete (advanced c) (next_operation c) given

-- control after the next line, from the answers to what its operation asks
abbrev pub control_done : Control → List Bool → Control × Stop
control_done c given = restored c.line (control_step (advanced c) (next_operation c) given)

-- the answers of the machine's data to what its next line asks
abbrev pub line_answers : Machine → List Bool
line_answers m = answers (advanced m.control) (next_operation m.control) m.contents

-- the machine as the operation of the next line finds it
abbrev pub at_next_line : Machine → Machine
at_next_line m = record m { control = advanced m.control }

-- the next line done
abbrev pub line_done : Machine → Step
line_done m =
    let given = line_answers m in
    record {
      machine = record {
        control = (control_done m.control given).0;
        contents = data_step (advanced m.control) (next_operation m.control) given m.contents;
      };
      stop = (control_done m.control given).1;
    }

abbrev pub at_control_line : ℕ → Machine → Machine
at_control_line line m = record m { control = at_line_number line m.control }

-- ---- many lines

-- a run of at most so many lines: its end, or None where it is late, and the machine
abbrev pub run : ℕ → Machine → Option End × Machine
run zero m = (None, m)
run (suc n) m = elim (line_done m).stop [
  | Go ↦ run n (line_done m).machine
  | Ended end ↦ (Some end, (line_done m).machine)
]

-- the operations that a run does, each with the machine as it finds it
abbrev pub trace : ℕ → Machine → List (Operation × Machine)
trace zero m = []
trace (suc n) m = (next_operation m.control, at_next_line m) ∷ (elim (line_done m).stop [
  | Go ↦ trace n (line_done m).machine
  | Ended end ↦ []
])

-- all answers of a run's steps in order
abbrev pub run_answers : ℕ → Machine → List Bool
run_answers zero m = []
run_answers (suc n) m = line_answers m ++ (elim (line_done m).stop [
  | Go ↦ run_answers n (line_done m).machine
  | Ended end ↦ []
])
