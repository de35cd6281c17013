-- The canonical text of a problem.
use Rattle.std.specs.Prelude.{ℕ, List, [], ◌∷◌, ◌++◌, Bool, if◌then◌else◌, codes, decimal, Option, Some, None, map}
use Rattle.hp_model.specs.declared.Mode.{Mode}
use Rattle.hp_model.specs.declared.Mode.TheVariants.{Unsigned, Ones, Twos}
use Rattle.hp_model.specs.State.{memory_bytes, radix}
use Rattle.jd_text.specs.Words.{words_of, written}
use Rattle.jd_model.specs.declared.assumptions.Against.{Against}
use Rattle.jd_model.specs.declared.assumptions.Against.TheVariants.{Part, Number}
use Rattle.jd_model.specs.declared.assumptions.Assume.{Assume}
use Rattle.hp_model.specs.declared.Extent.{Extent}
use Rattle.hp_model.specs.declared.Extent.TheVariants.{Standard, Large}
use Rattle.jd_model.specs.declared.line_kinds.Version.{Version}
use Rattle.jd_model.specs.declared.line_kinds.Version.TheVariants.{One, Two}
use Rattle.jd_text.specs.Digits.{hexadecimal}
use Rattle.jd_model.specs.Assembly.{text_of_code}
use Rattle.jd_model.specs.Problems.{Problem}
use Rattle.jd_model.specs.ProblemLines.{part_names, num_part_name, relation_name}

abbrev pub mode_number : Mode → ℕ
mode_number Unsigned = 0
mode_number Ones = 1
mode_number Twos = 2

-- the version of the canonical text: 1 where the memory is standard and nothing is assumed
abbrev pub version_of : Extent → List Assume → Version
version_of Standard [] = One
version_of _ _ = Two

abbrev pub version_number : Version → ℕ
version_number One = 1
version_number Two = 2

abbrev pub version : Problem → Version
version p = version_of p.memory p.assumed

-- the elements that are marked
abbrev pub chosen : {A : Type 0} → List Bool → List A → List A
chosen [] xs = []
chosen (b ∷ bs) [] = []
chosen (b ∷ bs) (x ∷ xs) = (if b then x ∷ [] else []) ++ chosen bs xs

abbrev pub fix_line : List ℕ → Option ℕ → List (List (List ℕ))
fix_line name None = []
fix_line name (Some n) = (codes "fix" ∷ name ∷ hexadecimal n ∷ []) ∷ []

abbrev pub fix_lines : List (List ℕ) → List (Option ℕ) → List (List (List ℕ))
fix_lines (name ∷ names) (fixed ∷ more) = fix_line name fixed ++ fix_lines names more
fix_lines _ _ = []

abbrev pub routine_lines : List ℕ → List (List (List ℕ))
routine_lines routine = map (λ code. words_of (text_of_code code)) routine

abbrev pub against_word : Against → List ℕ
against_word (Part part) = num_part_name part
against_word (Number n) = hexadecimal n

abbrev pub assume_line : Assume → List (List ℕ)
assume_line a = codes "assume" ∷ num_part_name a.left ∷ relation_name a.relation ∷ against_word a.right ∷ []

-- version 1 has no line for the memory
abbrev pub memory_lines : Version → Extent → List (List (List ℕ))
memory_lines One memory = []
memory_lines Two memory = (codes "memory" ∷ decimal (memory_bytes memory) ∷ []) ∷ []

-- the words of each line of a problem
abbrev pub machine_lines : Version → Problem → List (List (List ℕ))
machine_lines v p =
    (codes "problem" ∷ decimal (version_number v) ∷ []) ∷ (codes "word" ∷ decimal p.size ∷ [])
    ∷ (codes "mode" ∷ decimal (mode_number p.mode) ∷ []) ∷ (codes "base" ∷ decimal (radix p.base) ∷ []) ∷ []

abbrev pub bound_lines : Problem → List (List (List ℕ))
bound_lines p =
    (codes "steps" ∷ decimal p.steps ∷ []) ∷ (codes "paths" ∷ decimal p.paths ∷ []) ∷ (codes "budget" ∷ decimal p.budget ∷ [])
    ∷ (codes "observe" ∷ chosen p.observed part_names) ∷ []

abbrev pub header_lines : Version → Problem → List (List (List ℕ))
header_lines v p = machine_lines v p ++ (memory_lines v p.memory ++ bound_lines p)

abbrev pub problem_lines : Problem → List (List (List ℕ))
problem_lines p =
    header_lines (version p) p ++ (fix_lines part_names p.fixed ++ (map assume_line p.assumed
    ++ ((codes "first" ∷ []) ∷ (routine_lines p.first
    ++ ((codes "second" ∷ []) ∷ (routine_lines p.second ++ (codes "end" ∷ []) ∷ []))))))

abbrev pub problem_text : Problem → List ℕ
problem_text p = written (problem_lines p)
