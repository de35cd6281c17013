-- A problem's text reads back as the problem.
use Rattle.std.proofs.Common.{◌≡◌, ℕ, suc, ◌+◌, ◌^◌, ◌<◌, ◌≤◌, ◌==◌, ◌&&◌, Bool, true, false, not, cond, List, [], ◌∷◌, ◌++◌, length, replicate, Option, Some, None, refl, sym, ap, ◌∙◌, arith, append_assoc, append-nil, length-append, get_or, nat_lt, lit≤}
use Rattle.std.specs.Prelude.{All, map, Ok, Err, Result, codes, decimal, is_some, option_map, slice_set}
use Rattle.std.specs.Cmp.Derive.{both_true}
use Rattle.std.specs.Fmt.{digits}
use Rattle.std.proofs.Math.Seq.{set-append_seam, get_or-append_seam}
use Rattle.std.proofs.lemmas.Bool.{false≢true}
use Rattle.std.proofs.lemmas.List.Elements.{All-head, All-tail}
use Rattle.hp_model.specs.declared.Base.{Base as BaseOf}
use Rattle.hp_model.specs.declared.Base.TheVariants as bases
use Rattle.hp_model.specs.declared.Mode.{Mode as ModeOf}
use Rattle.hp_model.specs.declared.Mode.TheVariants as modes
use Rattle.hp_model.specs.State.{memory_bytes, radix}
use Rattle.jd_text.specs.Words.{words_of}
use Rattle.jd_model.specs.declared.causes.AsmCause.{AsmCause}
use Rattle.jd_model.specs.declared.causes.ProblemCause.{ProblemCause}
use Rattle.jd_model.specs.declared.causes.ProblemCause.TheVariants.{Syntax, Range, Repeated, Missing, Asm}
use Rattle.jd_model.specs.declared.line_kinds.LineKind.{LineKind}
use Rattle.jd_model.specs.declared.line_kinds.LineKind.TheVariants as kind
use Rattle.jd_model.specs.declared.line_kinds.LineKind.TheVariants.{Size, Mode, Base, Memory, Steps, Paths, Budget, Observe, Fix}
use Rattle.jd_model.specs.declared.line_kinds.Version.{Version}
use Rattle.jd_model.specs.declared.line_kinds.Version.TheVariants.{One, Two}
use Rattle.jd_model.specs.declared.assumptions.Assume.{Assume as AssumeOf}
use Rattle.hp_model.specs.declared.Extent.{Extent}
use Rattle.hp_model.specs.declared.Extent.TheVariants.{Standard, Large}
use Rattle.jd_model.specs.Assumptions.{IsAssume}
use Rattle.jd_text.specs.Readings.{read_until}
use Rattle.jd_text.specs.Digits.{hexadecimal, hexadecimal_number}
use Rattle.jd_model.specs.Assembly.{text_of_code, with_line}
use Rattle.jd_model.specs.Problems.{Problem, IsProblem, part_limit, are_fixed_from}
use Rattle.jd_model.specs.ProblemLines.{named_as, kind_name, kinds, is_of_version, kind_of, place_of, place_after, part_names, part_named, number, parts, part_at, assuming, one_number, part_and_value, said, is_between, is_in_range, mode_of, base_of, memory_of, marked, with_said}
use Rattle.jd_model.specs.ProblemTexts.{Reading, nothing_read, is_in_first, is_before_first, cause_of, version_said, after_line, with_first, with_second, assembly_line, said_line, with_problem_line, is_whole, problem_read, problem_of}
use Rattle.jd_model.specs.ProblemWriter.{version_of, version_number, version, mode_number, chosen, fix_lines, assume_line, memory_lines, machine_lines, bound_lines, routine_lines, header_lines, problem_lines, problem_text}
use Rattle.jd_text.proofs.Tests.{left-part, right-part, test-less, test-le, is_found, found-is, none-is}
use Rattle.jd_text.proofs.WrittenLines.{word-lines-written, until-good}
use Rattle.jd_text.proofs.WrittenNumbers.{decimal-number, hexadecimal-number}
use Rattle.jd_model.proofs.ReadBack.{AreCodes, reads_back, code-words, with_line-good}
use Rattle.jd_model.proofs.Parts.{are_names_from, all-names, places, names-chosen, places-once, marked-all}
use Rattle.jd_model.proofs.Assumed.{assumption-back}
use Rattle.jd_model.proofs.ProblemWords.{mode-small, base-small, memory-small, version-small, fixed-short, is_operation_line, code-operation, from_second, from_first, from_assumed, from_fixed, lines-proper}

-- a reading of a problem, and what is read from there
abbrev reading : Version → ℕ → Problem → Reading
reading v k p = record { version = v; due = k; problem = p }

abbrev read_on : ℕ → Reading → List (List (List ℕ)) → Result (Reading × ℕ) (ℕ × ProblemCause)
read_on n r lines = read_until is_whole Missing with_problem_line n r lines

-- a good line other than the last is read
line-read : (n : ℕ) (r next : Reading) (words : List (List ℕ)) (lines : List (List (List ℕ))) → with_problem_line r words ≡ Ok next → is_whole next ≡ false
    → read_on n r (words ∷ lines) ≡ read_on (suc n) next lines
line-read n r next words lines taken unfinished = until-good is_whole Missing with_problem_line n r next words lines taken unfinished

-- ---- headers of one number

-- a kind of a header with one number, and its name
record IsHeader (v : Version) (k : LineKind) (name : List ℕ) : Type 0 where
  named : kind_of v name ≡ Some k
  says : (words : List (List ℕ)) → said k words ≡ one_number words
  judges : (p : Problem) (n : ℕ) → cause_of (reading v (place_of k) p) k (number n) ≡ cond (not (is_in_range k n)) (Some Range) None
  unfinished : (place_after k v == 12) ≡ false

-- a header of one number is read
header-read : (m : ℕ) (v : Version) (k : LineKind) (name : List ℕ) (n : ℕ) (p : Problem) (lines : List (List (List ℕ))) → IsHeader v k name → n < 10 ^ 10 → is_in_range k n ≡ true
    → read_on m (reading v (place_of k) p) ((name ∷ decimal n ∷ []) ∷ lines)
    ≡ read_on (suc m) (reading (version_said k (number n) v) (place_after k v) (with_said k (number n) p)) lines
header-read m v k name n p lines is small inside =
    line-read m (reading v (place_of k) p) next (name ∷ decimal n ∷ []) lines
    (ap by_kind is.named ∙ ap (said_line (reading v (place_of k) p) k) (is.says (decimal n ∷ []) ∙ ap (option_map number) (decimal-number n small))
    ∙ ap by_cause (is.judges p n ∙ ap (λ b. cond (not b) (Some Range) None) inside))
    is.unfinished
  where
    next : Reading
    next = reading (version_said k (number n) v) (place_after k v) (with_said k (number n) p)

    by_kind : Option LineKind → Result Reading ProblemCause
    by_kind found = elim found [
      | None ↦ assembly_line (reading v (place_of k) p) (name ∷ decimal n ∷ [])
      | Some found ↦ said_line (reading v (place_of k) p) found (said found (decimal n ∷ []))
    ]

    by_cause : Option ProblemCause → Result Reading ProblemCause
    by_cause cause = elim cause [ None ↦ Ok next | Some bad ↦ Err bad ]

-- a number within a range
between : (low high n : ℕ) → low ≤ n → n ≤ high → is_between low high n ≡ true
between low high n h g = both_true (test-le low n h) (test-le n high g)

-- modes and bases read back from their numbers
mode-back : (mode : ModeOf) → mode_of (mode_number mode) ≡ mode
mode-back modes.Unsigned = refl
mode-back modes.Ones = refl
mode-back modes.Twos = refl

base-back : (base : BaseOf) → base_of (radix base) ≡ base
base-back bases.Hex = refl
base-back bases.Dec = refl
base-back bases.Oct = refl
base-back bases.Bin = refl

base-range : (base : BaseOf) → is_in_range Base (radix base) ≡ true
base-range bases.Hex = refl
base-range bases.Dec = refl
base-range bases.Oct = refl
base-range bases.Bin = refl

memory-back : (memory : Extent) → memory_of (memory_bytes memory) ≡ memory
memory-back Standard = refl
memory-back Large = refl

memory-range : (memory : Extent) → is_in_range Memory (memory_bytes memory) ≡ true
memory-range Standard = refl
memory-range Large = refl

-- versions read back from their numbers
version-back : (v : Version) → version_said kind.Problem (number (version_number v)) One ≡ v
version-back One = refl
version-back Two = refl

version-range : (v : Version) → is_in_range kind.Problem (version_number v) ≡ true
version-range One = refl
version-range Two = refl

-- the headers of one number
is-version : IsHeader One kind.Problem (codes "problem")
is-version = record { named = refl; says = λ words. refl; judges = λ p n. refl; unfinished = refl }

is-size : (v : Version) → IsHeader v Size (codes "word")
is-size v = record { named = refl; says = λ words. refl; judges = λ p n. refl; unfinished = refl }

is-mode : (v : Version) → IsHeader v Mode (codes "mode")
is-mode v = record { named = refl; says = λ words. refl; judges = λ p n. refl; unfinished = refl }

is-base : (v : Version) → IsHeader v Base (codes "base")
is-base One = record { named = refl; says = λ words. refl; judges = λ p n. refl; unfinished = refl }
is-base Two = record { named = refl; says = λ words. refl; judges = λ p n. refl; unfinished = refl }

is-memory : IsHeader Two Memory (codes "memory")
is-memory = record { named = refl; says = λ words. refl; judges = λ p n. refl; unfinished = refl }

is-steps : (v : Version) → IsHeader v Steps (codes "steps")
is-steps v = record { named = refl; says = λ words. refl; judges = λ p n. refl; unfinished = refl }

is-paths : (v : Version) → IsHeader v Paths (codes "paths")
is-paths v = record { named = refl; says = λ words. refl; judges = λ p n. refl; unfinished = refl }

is-budget : (v : Version) → IsHeader v Budget (codes "budget")
is-budget v = record { named = refl; says = λ words. refl; judges = λ p n. refl; unfinished = refl }

-- ---- observed parts

-- what a line of parts gives, where a part may be named twice
abbrev by_repetition : Version → Problem → List ℕ → Bool → Result Reading ProblemCause
by_repetition v p ks twice = elim (cond twice (Some Repeated) None) [ None ↦ Ok (after_line (reading v 8 p) Observe (parts ks)) | Some cause ↦ Err cause ]

-- the line of observed parts is taken
observe-line : (v : Version) (p : Problem) (bs : List Bool) → length bs ≡ 13
    → with_problem_line (reading v 8 p) (codes "observe" ∷ chosen bs part_names) ≡ Ok (reading v 9 (record p { observed = marked p.observed (places 0 bs) }))
observe-line v p bs count =
    ap (λ ks. said_line (reading v 8 p) Observe (option_map parts ks)) (names-chosen 0 part_names bs all-names (omega (arith, count)))
    ∙ ap (by_repetition v p (places 0 bs)) (places-once 0 bs)

-- ---- the memory

-- the lines of the memory are read, in version 1 none
memory-read : (v : Version) (p : Problem) (memory : Extent) (lines : List (List (List ℕ))) → (v ≡ One → memory ≡ p.memory)
    → read_on 5 (reading v (place_after Base v) p) (memory_lines v memory ++ lines)
    ≡ read_on (5 + length (memory_lines v memory)) (reading v (place_of Steps) (record p { memory = memory })) lines
memory-read One p memory lines same = ap (λ memory. read_on 5 (reading One 5 (record p { memory = memory })) lines) (sym (same refl))
memory-read Two p memory lines same =
    header-read 5 Two Memory (codes "memory") (memory_bytes memory) p lines is-memory (omega (arith, memory-small memory)) (memory-range memory)
    ∙ ap (λ memory. read_on 6 (reading Two 5 (record p { memory = memory })) lines) (memory-back memory)

-- ---- all headers

-- a problem of whose fixed parts, assumptions and routines nothing is read
abbrev headed : Problem → Problem
headed p = record p { fixed = replicate (length p.fixed) None; assumed = []; first = []; second = [] }

-- the number of the line after the headers
abbrev after_headers : Version → Extent → ℕ
after_headers v memory = suc (suc (suc (suc (5 + length (memory_lines v memory)))))

-- the headers are read
headers-read : (v : Version) (p : Problem) (lines : List (List (List ℕ))) → IsProblem p → (v ≡ One → p.memory ≡ Standard)
    → read_on 1 nothing_read (header_lines v p ++ lines) ≡ read_on (after_headers v p.memory) (reading v 9 (headed p)) lines
headers-read v p lines is standard =
    let none = nothing_read.problem in
    let sized : Problem = record none { size = p.size } in
    let moded : Problem = record sized { mode = p.mode } in
    let based : Problem = record moded { base = p.base } in
    let held : Problem = record based { memory = p.memory } in
    let stepped : Problem = record held { steps = p.steps } in
    let pathed : Problem = record stepped { paths = p.paths } in
    let budgeted : Problem = record pathed { budget = p.budget } in
    let from_observe : List (List (List ℕ)) = (codes "observe" ∷ chosen p.observed part_names) ∷ lines in
    let from_budget : List (List (List ℕ)) = (codes "budget" ∷ decimal p.budget ∷ []) ∷ from_observe in
    let from_paths : List (List (List ℕ)) = (codes "paths" ∷ decimal p.paths ∷ []) ∷ from_budget in
    let from_steps : List (List (List ℕ)) = (codes "steps" ∷ decimal p.steps ∷ []) ∷ from_paths in
    let from_memory : List (List (List ℕ)) = memory_lines v p.memory ++ from_steps in
    let from_base : List (List (List ℕ)) = (codes "base" ∷ decimal (radix p.base) ∷ []) ∷ from_memory in
    let from_mode : List (List (List ℕ)) = (codes "mode" ∷ decimal (mode_number p.mode) ∷ []) ∷ from_base in
    let from_size : List (List (List ℕ)) = (codes "word" ∷ decimal p.size ∷ []) ∷ from_mode in
    let at : ℕ = 5 + length (memory_lines v p.memory) in
    ap (λ rest. read_on 1 nothing_read (machine_lines v p ++ rest)) (append_assoc (memory_lines v p.memory) (bound_lines p) lines)
    ∙ header-read 1 One kind.Problem (codes "problem") (version_number v) none from_size is-version (omega (arith, version-small v)) (version-range v)
    ∙ ap (λ v. read_on 2 (reading v 1 none) from_size) (version-back v)
    ∙ header-read 2 v Size (codes "word") p.size none from_mode (is-size v) (omega (arith, is.size_most)) (between 1 64 p.size is.size_least is.size_most)
    ∙ header-read 3 v Mode (codes "mode") (mode_number p.mode) sized from_base (is-mode v) (omega (arith, mode-small p.mode)) (test-le (mode_number p.mode) 2 (mode-small p.mode))
    ∙ ap (λ mode. read_on 4 (reading v 3 (record sized { mode = mode })) from_base) (mode-back p.mode)
    ∙ header-read 4 v Base (codes "base") (radix p.base) moded from_memory (is-base v) (omega (arith, base-small p.base)) (base-range p.base)
    ∙ ap (λ base. read_on 5 (reading v (place_after Base v) (record moded { base = base })) from_memory) (base-back p.base)
    ∙ memory-read v based p.memory from_steps standard
    ∙ header-read at v Steps (codes "steps") p.steps held from_paths (is-steps v) (omega (arith, is.steps_most)) (between 1 1000 p.steps is.steps_least is.steps_most)
    ∙ header-read (suc at) v Paths (codes "paths") p.paths stepped from_budget (is-paths v) (omega (arith, is.paths_most)) (between 1 65_536 p.paths is.paths_least is.paths_most)
    ∙ header-read (suc (suc at)) v Budget (codes "budget") p.budget pathed from_observe (is-budget v) (omega (arith, is.budget_most)) (between 1 1_048_576 p.budget is.budget_least is.budget_most)
    ∙ line-read (suc (suc (suc at))) (reading v 8 budgeted) (reading v 9 (record budgeted { observed = marked (replicate 13 false) (places 0 p.observed) })) (codes "observe" ∷ chosen p.observed part_names) lines
    (observe-line v budgeted p.observed is.observed_count) refl
    ∙ ap (λ count. read_on (after_headers v p.memory) (reading v 9 (record budgeted { observed = marked (replicate count false) (places 0 p.observed) })) lines) (sym is.observed_count)
    ∙ ap (λ bs. read_on (after_headers v p.memory) (reading v 9 (record budgeted { observed = bs })) lines) (marked-all p.observed)
    ∙ ap (λ count. read_on (after_headers v p.memory) (reading v 9 (record budgeted { observed = p.observed; fixed = replicate count None })) lines) (sym is.fixed_count)

-- ---- fixed parts

-- what a line on part k gives, by what the part was fixed at before and whether its number is in range
abbrev by_cause_of_fix : Version → Problem → ℕ → ℕ → Option ℕ → Bool → Result Reading ProblemCause
by_cause_of_fix v p k n before inside = elim (cond (is_some before) (Some Repeated) (cond (not inside) (Some Range) None)) [
  | None ↦ Ok (after_line (reading v 9 p) Fix (part_at k n))
  | Some cause ↦ Err cause
]

-- the line of a fixed part is taken
fix-line : (v : Version) (p : Problem) (k n : ℕ) (name : List ℕ) (done rest : List (Option ℕ)) → p.size ≤ 64 → part_named name ≡ Some k → length done ≡ k
    → nat_lt n (part_limit p.size k) ≡ true
    → with_problem_line (reading v 9 (record p { assumed = []; fixed = done ++ None ∷ rest })) (codes "fix" ∷ name ∷ hexadecimal n ∷ [])
    ≡ Ok (reading v 9 (record p { assumed = []; fixed = done ++ Some n ∷ rest }))
fix-line v p k n name done rest w named size inside =
    let q : Problem = record p { assumed = []; fixed = done ++ None ∷ rest } in
    let free : get_or (done ++ None ∷ rest) k None ≡ None = ap (λ j. get_or (done ++ None ∷ rest) j None) (sym size) ∙ get_or-append_seam done None rest None in
    ap (λ part. said_line (reading v 9 q) Fix (part_and_value part (hexadecimal_number (hexadecimal n)))) named
    ∙ ap (λ value. said_line (reading v 9 q) Fix (part_and_value (Some k) value)) (hexadecimal-number n (fixed-short p.size k n w inside))
    ∙ ap (λ before. by_cause_of_fix v q k n before (nat_lt n (part_limit p.size k))) free
    ∙ ap (by_cause_of_fix v q k n None) inside
    ∙ ap (λ j. Ok (reading v 9 (record p { assumed = []; fixed = slice_set (done ++ None ∷ rest) j (Some n) }))) (sym size)
    ∙ ap (λ fs. Ok (reading v 9 (record p { assumed = []; fixed = fs }))) (set-append_seam done None rest (Some n))

-- the lines from part k on, where those before are done
fixes-read : (v : Version) (m k : ℕ) (names : List (List ℕ)) (done fs : List (Option ℕ)) (p : Problem) (lines : List (List (List ℕ))) → p.size ≤ 64 → are_names_from k names ≡ true
    → length done ≡ k → length fs ≤ length names → are_fixed_from p.size k fs ≡ true
    → read_on m (reading v 9 (record p { assumed = []; fixed = done ++ replicate (length fs) None })) (fix_lines names fs ++ lines)
    ≡ read_on (m + length (fix_lines names fs)) (reading v 9 (record p { assumed = []; fixed = done ++ fs })) lines
fixes-read v m k [] done [] p lines w h size few is = ap (λ m. read_on m (reading v 9 (record p { assumed = []; fixed = done ++ [] })) lines) (omega arith)
fixes-read v m k (name ∷ names) done [] p lines w h size few is = ap (λ m. read_on m (reading v 9 (record p { assumed = []; fixed = done ++ [] })) lines) (omega arith)
fixes-read v m k [] done (f ∷ fs) p lines w h size few is = absurd (omega (arith, few))
fixes-read v m k (name ∷ names) done (None ∷ fs) p lines w h size few is =
    ap (λ all. read_on m (reading v 9 (record p { assumed = []; fixed = all })) (fix_lines names fs ++ lines)) (sym (append_assoc done (None ∷ []) (replicate (length fs) None)))
    ∙ fixes-read v m (suc k) names (done ++ None ∷ []) fs p lines w (right-part (is_found (part_named name) k) (are_names_from (suc k) names) h)
    (omega (arith, length-append done (None ∷ []), size)) (omega (arith, few)) is
    ∙ ap (λ all. read_on (m + length (fix_lines names fs)) (reading v 9 (record p { assumed = []; fixed = all })) lines) (append_assoc done (None ∷ []) fs)
fixes-read v m k (name ∷ names) done (Some n ∷ fs) p lines w h size few is =
    let more : List (List (List ℕ)) = fix_lines names fs in
    let next : ℕ = suc m + length more in
    line-read m (reading v 9 (record p { assumed = []; fixed = done ++ None ∷ replicate (length fs) None })) (reading v 9 (record p { assumed = []; fixed = done ++ Some n ∷ replicate (length fs) None }))
    (codes "fix" ∷ name ∷ hexadecimal n ∷ []) (more ++ lines)
    (fix-line v p k n name done (replicate (length fs) None) w (found-is (part_named name) k (left-part (is_found (part_named name) k) (are_names_from (suc k) names) h)) size
    (left-part (nat_lt n (part_limit p.size k)) (are_fixed_from p.size (suc k) fs) is)) refl
    ∙ ap (λ all. read_on (suc m) (reading v 9 (record p { assumed = []; fixed = all })) (more ++ lines)) (sym (append_assoc done (Some n ∷ []) (replicate (length fs) None)))
    ∙ fixes-read v (suc m) (suc k) names (done ++ Some n ∷ []) fs p lines w (right-part (is_found (part_named name) k) (are_names_from (suc k) names) h)
    (omega (arith, length-append done (Some n ∷ []), size)) (omega (arith, few)) (right-part (nat_lt n (part_limit p.size k)) (are_fixed_from p.size (suc k) fs) is)
    ∙ ap (λ all. read_on next (reading v 9 (record p { assumed = []; fixed = all })) lines) (append_assoc done (Some n ∷ []) fs)
    ∙ ap (λ m. read_on m (reading v 9 (record p { assumed = []; fixed = done ++ Some n ∷ fs })) lines) (omega arith)

-- ---- assumptions

-- what a line of an assumption gives, by whether there is room for it
abbrev by_room : Problem → AssumeOf → Bool → Result Reading ProblemCause
by_room p a room = elim (cond (not room) (Some Range) None) [ None ↦ Ok (after_line (reading Two 9 p) kind.Assume (assuming a)) | Some cause ↦ Err cause ]

-- the line of an assumption is taken
assume-taken : (p : Problem) (a : AssumeOf) → IsAssume a → nat_lt (length p.assumed) 64 ≡ true
    → with_problem_line (reading Two 9 p) (assume_line a) ≡ Ok (reading Two 9 (record p { assumed = p.assumed ++ a ∷ [] }))
assume-taken p a is room = ap (said_line (reading Two 9 p) kind.Assume) (assumption-back a is) ∙ ap (by_room p a) room

-- the lines of assumptions are read, where those before are done
assumes-read : (m : ℕ) (done more : List AssumeOf) (p : Problem) (lines : List (List (List ℕ))) → All IsAssume more → length done + length more ≤ 64
    → read_on m (reading Two 9 (record p { assumed = done })) (map assume_line more ++ lines)
    ≡ read_on (m + length (map assume_line more)) (reading Two 9 (record p { assumed = done ++ more })) lines
assumes-read m done [] p lines are room =
    ap (λ m. read_on m (reading Two 9 (record p { assumed = done })) lines) (omega arith)
    ∙ ap (λ all. read_on (m + 0) (reading Two 9 (record p { assumed = all })) lines) (sym (append-nil done))
assumes-read m done (a ∷ more) p lines are room =
    line-read m (reading Two 9 (record p { assumed = done })) (reading Two 9 (record p { assumed = done ++ a ∷ [] })) (assume_line a) (map assume_line more ++ lines)
    (assume-taken (record p { assumed = done }) a (All-head IsAssume a more are) (test-less (length done) 64 (omega (arith, room)))) refl
    ∙ assumes-read (suc m) (done ++ a ∷ []) more p lines (All-tail IsAssume a more are) (omega (arith, room, length-append done (a ∷ [])))
    ∙ ap (λ all. read_on (suc m + length (map assume_line more)) (reading Two 9 (record p { assumed = all })) lines) (append_assoc done (a ∷ []) more)
    ∙ ap (λ m. read_on m (reading Two 9 (record p { assumed = done ++ a ∷ more })) lines) (omega arith)

-- the same of either version: in version 1 there are none
assumed-read : (v : Version) (m : ℕ) (assumed : List AssumeOf) (p : Problem) (lines : List (List (List ℕ))) → (v ≡ One → assumed ≡ []) → All IsAssume assumed → length assumed ≤ 64
    → read_on m (reading v 9 (record p { assumed = [] })) (map assume_line assumed ++ lines)
    ≡ read_on (m + length (map assume_line assumed)) (reading v 9 (record p { assumed = assumed })) lines
assumed-read One m [] p lines none are room = ap (λ m. read_on m (reading One 9 (record p { assumed = [] })) lines) (omega arith)
assumed-read One m (a ∷ assumed) p lines none are room = absurd (omega (arith, ap length (none refl)))
assumed-read Two m assumed p lines none are room = assumes-read m [] assumed p lines are (omega (arith, room))

-- ---- routines

-- readings that take lines of a routine, by the routine so far
record TakesRoutine (at : List ℕ → Reading) : Type 0 where
  begun : (routine : List ℕ) → is_before_first (at routine) ≡ false
  so_far : (routine : List ℕ) → cond (is_in_first (at routine)) (at routine).problem.first (at routine).problem.second ≡ routine
  then_is : (routine more : List ℕ) → cond (is_in_first (at routine)) (with_first more (at routine)) (with_second more (at routine)) ≡ at more
  unfinished : (routine : List ℕ) → is_whole (at routine) ≡ false

-- a first word that is of no kind
no-kind : (v : Version) (word : List ℕ) → not (is_some (named_as kind_name kinds word)) ≡ true → kind_of v word ≡ None
no-kind v word h = ap of_version (none-is (named_as kind_name kinds word) h)
  where
    of_version : Option LineKind → Option LineKind
    of_version found = elim found [ None ↦ None | Some k ↦ cond (is_of_version k v) (Some k) None ]

-- a line of a code is taken into the routine
operation-line : (at : List ℕ → Reading) (routine : List ℕ) (words : List (List ℕ)) (code : ℕ) → TakesRoutine at → is_operation_line words ≡ true
    → reads_back words code ≡ true → nat_lt (length routine) 203 ≡ true → with_problem_line (at routine) words ≡ Ok (at (routine ++ code ∷ []))
operation-line at routine [] code takes operation good room = absurd (false≢true operation)
operation-line at routine (word ∷ words) code takes operation good room =
    ap by_kind (no-kind (at routine).version word operation)
    ∙ ap by_begun (takes.begun routine)
    ∙ ap by_operation (ap (λ so_far. with_line so_far (word ∷ words)) (takes.so_far routine) ∙ with_line-good routine (word ∷ words) code good room)
    ∙ ap (λ r. Ok r) (takes.then_is routine (routine ++ code ∷ []))
  where
    by_operation : Result (List ℕ) AsmCause → Result Reading ProblemCause
    by_operation taken = elim taken [
      | Err cause ↦ Err (Asm cause)
      | Ok more ↦ Ok (cond (is_in_first (at routine)) (with_first more (at routine)) (with_second more (at routine)))
    ]

    by_begun : Bool → Result Reading ProblemCause
    by_begun early = elim early [
      | true ↦ Err Syntax
      | false ↦ by_operation (with_line (cond (is_in_first (at routine)) (at routine).problem.first (at routine).problem.second) (word ∷ words))
    ]

    by_kind : Option LineKind → Result Reading ProblemCause
    by_kind found = elim found [ None ↦ assembly_line (at routine) (word ∷ words) | Some k ↦ said_line (at routine) k (said k words) ]

-- the lines of a routine are read
routine-read : (at : List ℕ → Reading) (m : ℕ) (before routine : List ℕ) (lines : List (List (List ℕ))) → TakesRoutine at → AreCodes routine
    → length before + length routine ≤ 203
    → read_on m (at before) (routine_lines routine ++ lines) ≡ read_on (m + length (routine_lines routine)) (at (before ++ routine)) lines
routine-read at m before [] lines takes codes_of room =
    ap (λ routine. read_on m (at routine) lines) (sym (append-nil before)) ∙ ap (λ m. read_on m (at (before ++ [])) lines) (omega arith)
routine-read at m before (code ∷ routine) lines takes codes_of room =
    let small : code < 225 = All-head (λ c. c < 225) code routine codes_of in
    let free : nat_lt (length before) 203 ≡ true = test-less (length before) 203 (omega (arith, room)) in
    line-read m (at before) (at (before ++ code ∷ [])) (words_of (text_of_code code)) (routine_lines routine ++ lines)
    (operation-line at before (words_of (text_of_code code)) code takes (code-operation code small) (code-words code small) free) (takes.unfinished (before ++ code ∷ []))
    ∙ routine-read at (suc m) (before ++ code ∷ []) routine lines takes (All-tail (λ c. c < 225) code routine codes_of) (omega (arith, room, length-append before (code ∷ [])))
    ∙ ap (λ all. read_on (suc m + length (routine_lines routine)) (at all) lines) (append_assoc before (code ∷ []) routine)
    ∙ ap (λ m. read_on m (at (before ++ code ∷ routine)) lines) (omega arith)

-- the first routine is read where `second` is due, and the second where `end` is
takes-first : (v : Version) (p : Problem) → TakesRoutine (λ routine. reading v 10 (record p { first = routine }))
takes-first v p = record { begun = λ r. refl; so_far = λ r. refl; then_is = λ r s. refl; unfinished = λ r. refl }

takes-second : (v : Version) (p : Problem) → TakesRoutine (λ routine. reading v 11 (record p { second = routine }))
takes-second v p = record { begun = λ r. refl; so_far = λ r. refl; then_is = λ r s. refl; unfinished = λ r. refl }

-- a section word is taken
section-read : (m : ℕ) (v : Version) (k : LineKind) (name : List ℕ) (p : Problem) (lines : List (List (List ℕ))) → kind_of v name ≡ Some k
    → said_line (reading v (place_of k) p) k (said k []) ≡ Ok (reading v (suc (place_of k)) p) → is_whole (reading v (suc (place_of k)) p) ≡ false
    → read_on m (reading v (place_of k) p) ((name ∷ []) ∷ lines) ≡ read_on (suc m) (reading v (suc (place_of k)) p) lines
section-read m v k name p lines named taken unfinished =
    line-read m (reading v (place_of k) p) (reading v (suc (place_of k)) p) (name ∷ []) lines (ap by_kind named ∙ taken) unfinished
  where
    by_kind : Option LineKind → Result Reading ProblemCause
    by_kind found = elim found [ None ↦ assembly_line (reading v (place_of k) p) (name ∷ []) | Some found ↦ said_line (reading v (place_of k) p) found (said found []) ]

end-read : (m : ℕ) (v : Version) (p : Problem) → read_on m (reading v 11 p) ((codes "end" ∷ []) ∷ []) ≡ Ok (reading v 12 p, m)
end-read m v p = refl

-- ---- all lines

abbrev is_one : Version → Bool
is_one One = true
is_one Two = false

-- where the text is of version 1, the memory is standard and nothing is assumed
first-version : (memory : Extent) (assumed : List AssumeOf) → version_of memory assumed ≡ One → (memory ≡ Standard) × (assumed ≡ [])
first-version Standard [] e = (refl, refl)
first-version Standard (a ∷ assumed) e = absurd (false≢true (ap is_one e))
first-version Large assumed e = absurd (false≢true (ap is_one e))

-- the number of the last line
count-lines : (p : Problem)
    → suc (suc (after_headers (version p) p.memory + length (fix_lines part_names p.fixed) + length (map assume_line p.assumed)) + length (routine_lines p.first))
    + length (routine_lines p.second) ≡ length (problem_lines p)
count-lines p =
    let headers = length-append (memory_lines (version p) p.memory) (bound_lines p) in
    let all = length-append (header_lines (version p) p) (from_fixed p) in
    let fixes = length-append (fix_lines part_names p.fixed) (from_assumed p) in
    let assumes = length-append (map assume_line p.assumed) (from_first p) in
    let first = length-append (routine_lines p.first) (from_second p) in
    let second = length-append (routine_lines p.second) ((codes "end" ∷ []) ∷ []) in
    omega (arith, headers, all, fixes, assumes, first, second)

-- all lines are read
lines-read : (p : Problem) → IsProblem p → read_on 1 nothing_read (problem_lines p) ≡ Ok (reading (version p) 12 p, length (problem_lines p))
lines-read p is =
    let v : Version = version p in
    let fixed : Problem = record p { assumed = []; first = []; second = [] } in
    let assumed : Problem = record p { first = []; second = [] } in
    let with_one : Problem = record p { second = [] } in
    let last : List (List (List ℕ)) = (codes "end" ∷ []) ∷ [] in
    let at_fixed : ℕ = after_headers v p.memory in
    let at_assumed : ℕ = at_fixed + length (fix_lines part_names p.fixed) in
    let at_first : ℕ = at_assumed + length (map assume_line p.assumed) in
    let at_second : ℕ = suc at_first + length (routine_lines p.first) in
    headers-read v p (from_fixed p) is (λ e. (first-version p.memory p.assumed e).0)
    ∙ fixes-read v at_fixed 0 part_names [] p.fixed (headed p) (from_assumed p) is.size_most all-names refl (omega (arith, is.fixed_count)) is.fixed_within
    ∙ assumed-read v at_assumed p.assumed fixed (from_first p) (λ e. (first-version p.memory p.assumed e).1) is.assumed_numbers is.assumed_count
    ∙ section-read at_first v kind.First (codes "first") assumed (routine_lines p.first ++ from_second p) refl refl refl
    ∙ routine-read (λ routine. reading v 10 (record assumed { first = routine })) (suc at_first) [] p.first (from_second p)
    (takes-first v assumed) is.first_routine.codes (omega (arith, is.first_routine.few))
    ∙ section-read at_second v kind.Second (codes "second") with_one (routine_lines p.second ++ last) refl refl refl
    ∙ routine-read (λ routine. reading v 11 (record with_one { second = routine })) (suc at_second) [] p.second last
    (takes-second v with_one) is.second_routine.codes (omega (arith, is.second_routine.few))
    ∙ end-read (suc at_second + length (routine_lines p.second)) v p
    ∙ ap (λ m. Ok (reading v 12 p, m)) (count-lines p)

pub problem-back : (p : Problem) → IsProblem p → problem_of (problem_text p) ≡ Ok (p, length (problem_lines p))
problem-back p is =
    ap (λ lines. problem_read (read_on 1 nothing_read lines)) (word-lines-written (problem_lines p) (lines-proper p is))
    ∙ ap problem_read (lines-read p is)
