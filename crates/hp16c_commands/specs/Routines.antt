-- What `asm` and `list` answer for the bytes of a routine: as the other form, or the first bad line.
use Rattle.std.specs.Prelude.{ℕ, List, Result, Ok, Err, ⊤}
use Rattle.jd_model.specs.declared.causes.AsmCause.{AsmCause}
use Rattle.jd_model.specs.Assembly.{assembled, codes_text, routine_of_codes, listing}
use Rattle.hp16c_commands.specs.declared.outcomes.Status.TheVariants.{Done}
use Rattle.hp16c_commands.specs.Answers.{Answer, told, bad_line}

abbrev pub coded : Result (List ℕ) (ℕ × AsmCause) → Answer
coded (Ok routine) = told Done (codes_text routine)
coded (Err fault) = bad_line fault.0

-- the codes of assembly
abbrev pub asm_answer : List ℕ → Answer
asm_answer bytes = coded (assembled bytes)

abbrev pub listed : Result (List ℕ) (ℕ × ⊤) → Answer
listed (Ok routine) = told Done (listing routine)
listed (Err fault) = bad_line fault.0

-- the assembly of codes
abbrev pub list_answer : List ℕ → Answer
list_answer bytes = listed (routine_of_codes bytes)
