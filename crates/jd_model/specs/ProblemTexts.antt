-- The text of a problem: the problem, or the first bad line and its cause.
use Rattle.std.specs.Prelude.{ℕ, suc, Bool, true, false, not, ◌&&◌, ◌||◌, ◌==◌, nat_lt, if◌then◌else◌, List, [], ◌∷◌, length, replicate, is_some, slice_index_or, Option, Some, None, Result, Ok, Err}
use Rattle.std.specs.List.{list_any}
use Rattle.hp_model.specs.declared.Base.TheVariants as bases
use Rattle.hp_model.specs.declared.Mode.TheVariants as modes
use Rattle.jd_model.specs.declared.causes.ProblemCause.{ProblemCause}
use Rattle.jd_model.specs.declared.causes.ProblemCause.TheVariants.{Syntax, Range, Repeated, Missing, Asm}
use Rattle.hp_model.specs.declared.Extent.TheVariants as extents
use Rattle.jd_model.specs.declared.line_kinds.Version.{Version}
use Rattle.jd_model.specs.declared.line_kinds.Version.TheVariants.{One, Two}
use Rattle.jd_model.specs.declared.line_kinds.LineKind.{LineKind}
use Rattle.jd_model.specs.declared.line_kinds.LineKind.TheVariants as kind
use Rattle.jd_text.specs.Words.{word_lines}
use Rattle.jd_text.specs.Readings.{read_until}
use Rattle.jd_model.specs.Assembly.{with_line}
use Rattle.jd_model.specs.Assumptions.{assumption_limit}
use Rattle.jd_model.specs.Problems.{Problem, part_limit}
use Rattle.jd_model.specs.ProblemLines.{kind_of, place_of, place_after, Said, number, parts, part_at, assuming, said, is_in_range, with_said}

-- a problem as far as it is read: the version by whose rules it is read, the place of the header or section word that is
-- due, and what the lines said. All those before that place were given
pub record Reading : Type 0 where
  pub version : Version
  pub due : ℕ
  pub problem : Problem

-- before any line. What no line has said yet is the least of its range
abbrev pub nothing_read : Reading
nothing_read = record {
  version = One;
  due = place_of kind.Problem;
  problem = record {
    size = 1;
    mode = modes.Unsigned;
    base = bases.Hex;
    memory = extents.Standard;
    steps = 1;
    paths = 1;
    budget = 1;
    observed = replicate 13 false;
    fixed = replicate 13 None;
    assumed = [];
    first = [];
    second = [];
  };
}

-- ---- the stages of a reading

-- the first routine is being read, or one of the two is, or `end` was read
abbrev pub is_in_first : Reading → Bool
is_in_first r = r.due == place_of kind.Second

abbrev pub is_before_first : Reading → Bool
is_before_first r = nat_lt r.due (place_of kind.Second)

abbrev pub is_whole : Reading → Bool
is_whole r = r.due == suc (place_of kind.End)

-- ---- the cause of a well-formed line

-- `fix` lines stand before `assume` lines, and both before `first`
abbrev pub is_misplaced : Reading → LineKind → Bool
is_misplaced r kind.Fix = not (is_before_first r) || nat_lt 0 (length r.problem.assumed)
is_misplaced r kind.Assume = not (is_before_first r)
is_misplaced r _ = false

abbrev pub has_twice : List ℕ → Bool
has_twice [] = false
has_twice (k ∷ ks) = list_any (λ j. j == k) ks || has_twice ks

-- whether a line was given before, or a part stands a second time
abbrev pub is_repeated : Reading → LineKind → Said → Bool
is_repeated r kind.Fix (part_at k n) = is_some (slice_index_or r.problem.fixed k None)
is_repeated r k (parts ks) = nat_lt (place_of k) r.due || has_twice ks
is_repeated r k s = nat_lt (place_of k) r.due

abbrev pub is_out_of_range : Reading → LineKind → Said → Bool
is_out_of_range r k (number n) = not (is_in_range k n)
is_out_of_range r k (part_at part n) = not (nat_lt n (part_limit r.problem.size part))
is_out_of_range r k (assuming a) = not (nat_lt (length r.problem.assumed) assumption_limit)
is_out_of_range r k _ = false

abbrev pub cause_of : Reading → LineKind → Said → Option ProblemCause
cause_of r k s =
    if is_misplaced r k then Some Syntax else
    if is_repeated r k s then Some Repeated else
    if nat_lt r.due (place_of k) then Some Missing else
    if is_out_of_range r k s then Some Range else None

-- ---- the reading after a line

-- the first line says by which rules the others are read
abbrev pub version_said : LineKind → Said → Version → Version
version_said kind.Problem (number n) version = if n == 2 then Two else One
version_said _ _ version = version

abbrev pub after_line : Reading → LineKind → Said → Reading
after_line r k s = record {
  version = version_said k s r.version;
  due = place_after k r.version;
  problem = with_said k s r.problem;
}

abbrev pub with_first : List ℕ → Reading → Reading
with_first routine r = record r { problem = record r.problem { first = routine } }

abbrev pub with_second : List ℕ → Reading → Reading
with_second routine r = record r { problem = record r.problem { second = routine } }

-- a line whose first word is none of the version's. In a routine it is an assembly line
abbrev pub assembly_line : Reading → List (List ℕ) → Result Reading ProblemCause
assembly_line r words = elim (is_before_first r) [
  | true ↦ Err Syntax
  | false ↦ (elim (with_line (if is_in_first r then r.problem.first else r.problem.second) words) [
    | Err cause ↦ Err (Asm cause)
    | Ok routine ↦ Ok (if is_in_first r then with_first routine r else with_second routine r)
  ])
]

abbrev pub said_line : Reading → LineKind → Option Said → Result Reading ProblemCause
said_line r k None = Err Syntax
said_line r k (Some s) = elim (cause_of r k s) [ None ↦ Ok (after_line r k s) | Some cause ↦ Err cause ]

-- the reading with one more line, or why the line is bad. A line without words says nothing
abbrev pub with_problem_line : Reading → List (List ℕ) → Result Reading ProblemCause
with_problem_line r [] = Ok r
with_problem_line r (word ∷ words) = elim (kind_of r.version word) [
  | None ↦ assembly_line r (word ∷ words)
  | Some k ↦ said_line r k (said k words)
]

-- ---- the whole text

abbrev pub problem_read : Result (Reading × ℕ) (ℕ × ProblemCause) → Result (Problem × ℕ) (ℕ × ProblemCause)
problem_read (Ok (r, lines)) = Ok (r.problem, lines)
problem_read (Err fault) = Err fault

-- a problem with the number of its lines up to and with `end`, or the first bad line and its cause
abbrev pub problem_of : List ℕ → Result (Problem × ℕ) (ℕ × ProblemCause)
problem_of text = problem_read (read_until is_whole Missing with_problem_line 1 nothing_read (word_lines text))
