-- What was written for a script, by how the work on it came out.
use Rattle.std.specs.Prelude.{◌≡◌, ℕ, List, take, Option, Ok, Err}
use Rattle.std.specs.Io.KnownBytes.{Appends}
use Rattle.hp_debug.specs.declared.scripts.Debugged.{Debugged}
use Rattle.hp_debug.specs.declared.scripts.Debugged.TheVariants.{Done, BadLine, WriteFault}
use Rattle.hp_debug.specs.Scripts.{script_text}

-- the whole text of the script was written
pub record WroteAll (bytes : List ℕ) (written0 written : Option (List ℕ)) : Type 0 where
  pub text : List ℕ
  pub text_is : script_text bytes ≡ Ok text
  pub put : Appends written0 written text

-- a front of its text was written
pub record WrotePart (bytes : List ℕ) (written0 written : Option (List ℕ)) : Type 0 where
  pub text : List ℕ
  pub text_is : script_text bytes ≡ Ok text
  pub count : ℕ
  pub put : Appends written0 written (take count text)

-- what was written. Where a line is bad, it is the first such, and nothing was written
abbrev pub HasOutcome : List ℕ → Debugged → Option (List ℕ) → Option (List ℕ) → Type 0
HasOutcome bytes Done written0 written = WroteAll bytes written0 written
HasOutcome bytes (BadLine line) written0 written = (script_text bytes ≡ Err line) × (written ≡ written0)
HasOutcome bytes WriteFault written0 written = WrotePart bytes written0 written
