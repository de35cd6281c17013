-- A reading as the definitions see it, and its lines.
use Rattle.std.specs.Prelude.{ℕ, Bool, true, false, nat_lt, if◌then◌else◌, List, Option, Some, None, Result}
use Rattle.jd_text.specs.Readings.{Takes}
use Rattle.jd_text.specs.Words.{words_of}
use Rattle.jd_model.specs.declared.causes.ProblemCause.{ProblemCause}
use Rattle.jd_model.specs.declared.causes.ProblemCause.TheVariants.{Repeated, Missing}
use Rattle.jd_model.specs.declared.line_kinds.LineKind.{LineKind}
use Rattle.jd_model.specs.declared.line_kinds.LineKind.TheVariants.{Observe, Fix, Assume, First, Second, End}
use Rattle.jd_model.specs.ProblemLines.{place_of, said}
use Rattle.jd_model.specs.ProblemTexts.{Reading as ReadingValue, said_line}
use Rattle.jd_problem.specs.declared.reading.Reading.{Reading}
use Rattle.jd_problem.specs.Problems.{problem_of}

abbrev pub reading_of : Reading → ReadingValue
reading_of r = record { version = r.version; due = r.due; problem = problem_of r.problem }

-- the reading with a line of a kind, by the words after its first
abbrev pub line_of_kind : ReadingValue → LineKind → List (List ℕ) → Result ReadingValue ProblemCause
line_of_kind r kind words = said_line r kind (said kind words)

-- such a line was taken, or refused
abbrev pub TakesKind : {T : Type 0} → Reading → LineKind → List ℕ → Result T ProblemCause → Reading → Type 0
TakesKind old kind rest result new = Takes (line_of_kind (reading_of old) kind (words_of rest)) result (reading_of new)

-- the lines that say one number
abbrev pub is_number_line : LineKind → Bool
is_number_line Observe = false
is_number_line Fix = false
is_number_line Assume = false
is_number_line First = false
is_number_line Second = false
is_number_line End = false
is_number_line _ = true

-- the lines that say nothing after their first word
abbrev pub is_section_word : LineKind → Bool
is_section_word First = true
is_section_word Second = true
is_section_word End = true
is_section_word _ = false

-- why a line of a kind may not stand where that of a place is due
abbrev pub order_cause : ℕ → LineKind → Option ProblemCause
order_cause due kind =
    if nat_lt (place_of kind) due then Some Repeated else
    if nat_lt due (place_of kind) then Some Missing else None
