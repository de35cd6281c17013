-- The text of a spec: the problem and what its routine is to give, or the first bad line and its cause. A spec is read as a
-- problem of version 2 of which nothing is observed, whose first routine is the spec's and whose second has no lines. So the
-- places of `problem`, `first` and `second` are those of `spec`, of `routine` and of what is due in the routine.
use Rattle.std.specs.Prelude.{ℕ, suc, Bool, true, false, not, ◌&&◌, ◌||◌, ◌==◌, nat_lt, if◌then◌else◌, List, [], ◌∷◌, ◌++◌, length, Option, Some, None, Result, Ok, Err}
use Rattle.std.specs.List.{list_any}
use Rattle.jd_model.specs.declared.causes.ProblemCause.{ProblemCause}
use Rattle.jd_model.specs.declared.causes.ProblemCause.TheVariants.{Syntax, Range, Repeated, Missing}
use Rattle.jd_model.specs.declared.line_kinds.Version.TheVariants.{Two}
use Rattle.jd_model.specs.declared.line_kinds.LineKind.{LineKind}
use Rattle.jd_model.specs.declared.line_kinds.LineKind.TheVariants as kind
use Rattle.jd_text.specs.Words.{word_lines}
use Rattle.jd_text.specs.Readings.{read_lines}
use Rattle.jd_model.specs.Problems.{Problem}
use Rattle.jd_model.specs.ProblemLines.{Said, number, said, one_number, place_of}
use Rattle.jd_model.specs.ProblemTexts.{Reading, nothing_read, said_line, assembly_line, is_before_first, is_whole}
use Rattle.jd_formulas.specs.Formulas.{is_formula_in_range}
use Rattle.jd_gives.specs.declared.parts.GivenPart.{GivenPart}
use Rattle.jd_gives.specs.declared.gives.Give.{Give}
use Rattle.jd_gives.specs.Gives.{place}
use Rattle.jd_spec_texts.specs.declared.kinds.SpecKind.{SpecKind}
use Rattle.jd_spec_texts.specs.declared.kinds.SpecKind.TheVariants.{Spec, Shared, Give as GiveLine, Routine, End}
use Rattle.jd_spec_texts.specs.SpecLines.{spec_kind_of, one_give}

-- a spec as far as it is read
pub record SpecReading : Type 0 where
  pub reading : Reading
  pub gives : List Give

-- before any line
abbrev pub no_spec_read : SpecReading
no_spec_read = record { reading = record nothing_read { version = Two }; gives = [] }

abbrev pub with_due : ℕ → SpecReading → SpecReading
with_due due r = record r { reading = record r.reading { due = due } }

-- ---- lines that are said as in a problem

-- no `observe` line stands after `budget`
abbrev pub past_observed : Reading → Reading
past_observed r = if r.due == place_of kind.Observe then record r { due = place_of kind.First } else r

-- `fix` and `assume` lines stand before `give` lines
abbrev pub is_before_gives : LineKind → Bool
is_before_gives kind.Fix = true
is_before_gives kind.Assume = true
is_before_gives _ = false

abbrev pub stands_after_gives : SpecReading → LineKind → Bool
stands_after_gives r k = is_before_gives k && nat_lt 0 (length r.gives)

abbrev pub shared_line : SpecReading → LineKind → List (List ℕ) → Result SpecReading ProblemCause
shared_line r k words = if stands_after_gives r k then Err Syntax else elim (said_line r.reading k (said k words)) [
  | Err cause ↦ Err cause
  | Ok next ↦ Ok (record r { reading = past_observed next })
]

-- ---- lines of a spec alone

abbrev pub spec_line : SpecReading → Option Said → Result SpecReading ProblemCause
spec_line r (Some (number n)) =
    if nat_lt 0 r.reading.due then Err Repeated else
    if n == 1 then Ok (with_due (place_of kind.Size) r) else Err Range
spec_line r _ = Err Syntax

abbrev pub is_part_given : GivenPart → List Give → Bool
is_part_given part gives = list_any (λ g. place part == place g.part) gives

abbrev pub give_line : SpecReading → Option Give → Result SpecReading ProblemCause
give_line r None = Err Syntax
give_line r (Some give) =
    if not (is_before_first r.reading) then Err Syntax else
    if is_part_given give.part r.gives then Err Repeated else
    if nat_lt r.reading.due (place_of kind.First) then Err Missing else
    if is_formula_in_range r.reading.problem.size give.formula then Ok (record r { gives = r.gives ++ give ∷ [] }) else Err Range

-- `routine` wants at least one `give` line before it
abbrev pub routine_line : SpecReading → List (List ℕ) → Result SpecReading ProblemCause
routine_line r [] =
    if not (is_before_first r.reading) then Err Repeated else
    if nat_lt r.reading.due (place_of kind.First) || length r.gives == 0 then Err Missing else Ok (with_due (place_of kind.Second) r)
routine_line r _ = Err Syntax

abbrev pub end_line : SpecReading → List (List ℕ) → Result SpecReading ProblemCause
end_line r [] = if is_before_first r.reading then Err Missing else Ok (with_due (suc (place_of kind.End)) r)
end_line r _ = Err Syntax

-- a line whose first word is of no kind. In the routine it is an assembly line
abbrev pub other_line : SpecReading → List (List ℕ) → Result SpecReading ProblemCause
other_line r words = elim (assembly_line r.reading words) [
  | Err cause ↦ Err cause
  | Ok next ↦ Ok (record r { reading = next })
]

-- ---- one line after another

abbrev pub kind_line : SpecReading → SpecKind → List (List ℕ) → Result SpecReading ProblemCause
kind_line r Spec words = spec_line r (one_number words)
kind_line r (Shared k) words = shared_line r k words
kind_line r GiveLine words = give_line r (one_give words)
kind_line r Routine words = routine_line r words
kind_line r End words = end_line r words

-- the reading with one more line, or why the line is bad. A line without words says nothing, and after `end` stands no other
abbrev pub with_spec_line : SpecReading → List (List ℕ) → Result SpecReading ProblemCause
with_spec_line r [] = Ok r
with_spec_line r (word ∷ words) = if is_whole r.reading then Err Syntax else elim (spec_kind_of word) [
  | None ↦ other_line r (word ∷ words)
  | Some k ↦ kind_line r k words
]

-- ---- the whole text

-- a text that ends before `end` is bad at the number after its last line's
abbrev pub spec_read : ℕ → Result SpecReading (ℕ × ProblemCause) → Result (Problem × List Give) (ℕ × ProblemCause)
spec_read lines (Err fault) = Err fault
spec_read lines (Ok r) = if is_whole r.reading then Ok (r.reading.problem, r.gives) else Err (suc lines, Missing)

-- a spec, or the first bad line and its cause
abbrev pub spec_of : List ℕ → Result (Problem × List Give) (ℕ × ProblemCause)
spec_of text = spec_read (length (word_lines text)) (read_lines with_spec_line 1 no_spec_read (word_lines text))
