-- What the code keeps of a line that it has parsed, which leaves the keys in the line's bytes, and which line that is.
use Rattle.std.specs.Prelude.{◌≡◌, ℕ, ◌≤◌, Bool, List, drop, length, Some}
use Rattle.jd_text.specs.Words.{words_of}
use Rattle.jd_text.specs.Places.{words_at}
use Rattle.hp_model.specs.declared.Extent.{Extent}
use Rattle.hp_debug.specs.declared.commands.Command.{Command}
use Rattle.hp_debug.specs.declared.commands.Command.TheVariants as asked
use Rattle.hp_debug.specs.declared.parsing.ParsedLine.{ParsedLine}
use Rattle.hp_debug.specs.declared.parsing.ParsedLine.TheVariants as parsed
use Rattle.hp_debug.specs.ScriptLines.{Line, keys, new_machine, command, keys_in, machine_in}

abbrev pub line_of_parsed : List ℕ → ParsedLine → Line
line_of_parsed line parsed.Keys = keys (keys_in (words_at line 0))
line_of_parsed line (parsed.NewMachine extent after) = new_machine extent (keys_in (words_at line after))
line_of_parsed line (parsed.Command given) = command given

-- a command's number is that of a line of a program
abbrev pub HasLineNumber : Command → Type 0
HasLineNumber (asked.Break n) = (1 ≤ n) × (n ≤ 609)
HasLineNumber (asked.Clear n) = (1 ≤ n) × (n ≤ 609)
HasLineNumber _ = Unit {0}

abbrev pub FitsLine : List ℕ → ParsedLine → Type 0
FitsLine line parsed.Keys = Unit {0}
FitsLine line (parsed.NewMachine extent after) = after ≤ length line
FitsLine line (parsed.Command given) = HasLineNumber given

-- the line's first word names a machine, and ends there
pub record NamesMachine (first : Bool) (line : List ℕ) (extent : Extent) (after : ℕ) : Type 0 where
  pub extent_is : machine_in first (words_of line) ≡ Some extent
  pub rest : words_at line after ≡ drop 1 (words_of line)
  pub within : after ≤ length line
