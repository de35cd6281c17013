-- What `debug` answers for the bytes of a script: its text, or the first bad line.
use Rattle.std.specs.Prelude.{◌≡◌, ℕ, List, Result, Ok, Err, Option}
use Rattle.std.specs.Io.KnownBytes.{Appends}
use Rattle.hp_debug.specs.Scripts.{script_text}
use Rattle.hp16c_commands.specs.declared.outcomes.Outcome.{Outcome}
use Rattle.hp16c_commands.specs.declared.outcomes.Status.{Status}
use Rattle.hp16c_commands.specs.declared.outcomes.Status.TheVariants.{Done}
use Rattle.hp16c_commands.specs.Answers.{Answer, told, bad_line}

abbrev pub debugged : Result (List ℕ) ℕ → Answer
debugged (Ok text) = told Done text
debugged (Err line) = bad_line line

abbrev pub debug_answer : List ℕ → Answer
debug_answer bytes = debugged (script_text bytes)

-- the answer of some bytes was written
abbrev pub WasTaken : List ℕ → Status → Option (List ℕ) → Option (List ℕ) → Type 0
WasTaken bytes status written0 written = (status ≡ (debug_answer bytes).outcome.status) × Appends written0 written (debug_answer bytes).text
