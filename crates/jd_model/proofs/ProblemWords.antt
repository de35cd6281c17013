-- The words of a problem's lines are proper.
use Rattle.std.proofs.Common.{◌≡◌, ℕ, suc, ◌^◌, ◌<◌, ◌≤◌, ◌&&◌, ◌==◌, Bool, true, false, not, cond, List, [], ◌∷◌, ◌++◌, map, Option, Some, None, refl, ◌∙◌, arith, nat_lt, lit≤}
use Rattle.std.specs.Prelude.{All, codes, decimal, is_some}
use Rattle.std.specs.Cmp.Derive.{both_true}
use Rattle.std.specs.List.{list_all}
use Rattle.std.proofs.Math.Nat.{pow-le-pow_right}
use Rattle.std.proofs.lemmas.Bool.{ltb-true}
use Rattle.std.proofs.lemmas.List.Elements.{All-head, All-tail}
use Rattle.std.proofs.lemmas.List.Folds.{list_all-append}
use Rattle.hp_model.specs.declared.Base.{Base}
use Rattle.hp_model.specs.declared.Base.TheVariants.{Hex, Dec, Oct, Bin}
use Rattle.hp_model.specs.declared.Mode.{Mode}
use Rattle.hp_model.specs.declared.Mode.TheVariants.{Unsigned, Ones, Twos}
use Rattle.hp_model.specs.State.{memory_bytes, radix}
use Rattle.jd_text.specs.Words.{words_of}
use Rattle.jd_model.specs.Assembly.{text_of_code}
use Rattle.jd_model.specs.declared.assumptions.Assume.{Assume}
use Rattle.hp_model.specs.declared.Extent.{Extent}
use Rattle.hp_model.specs.declared.Extent.TheVariants.{Standard, Large}
use Rattle.jd_model.specs.declared.line_kinds.Version.{Version}
use Rattle.jd_model.specs.declared.line_kinds.Version.TheVariants.{One, Two}
use Rattle.jd_model.specs.Assumptions.{IsAssume}
use Rattle.jd_model.specs.Problems.{Problem, IsProblem, part_limit, are_fixed_from}
use Rattle.jd_model.specs.ProblemLines.{named_as, kind_name, kinds, part_names}
use Rattle.jd_model.specs.ProblemWriter.{version_number, version, mode_number, chosen, fix_lines, assume_line, memory_lines, bound_lines, routine_lines, header_lines, problem_lines}
use Rattle.jd_text.proofs.Tests.{left-part, right-part, passes_from, passes_at}
use Rattle.jd_text.proofs.WrittenLines.{is_proper, are_proper}
use Rattle.jd_text.proofs.WrittenNumbers.{decimal-proper, hexadecimal-proper}
use Rattle.jd_model.proofs.ReadBack.{AreCodes}
use Rattle.jd_model.proofs.Assumed.{assumption-proper}

-- ---- headers

-- proper lines before proper lines
both-proper : (before after : List (List (List ℕ))) → are_proper before ≡ true → are_proper after ≡ true → are_proper (before ++ after) ≡ true
both-proper before after h g = list_all-append (list_all is_proper) before after ∙ both_true h g

-- the numbers of modes and bases are small
pub mode-small : (mode : Mode) → mode_number mode ≤ 2
mode-small Unsigned = lit≤ tt
mode-small Ones = lit≤ tt
mode-small Twos = lit≤ tt

pub base-small : (base : Base) → radix base ≤ 16
base-small Hex = lit≤ tt
base-small Dec = lit≤ tt
base-small Oct = lit≤ tt
base-small Bin = lit≤ tt

pub memory-small : (memory : Extent) → memory_bytes memory ≤ 609
memory-small Standard = lit≤ tt
memory-small Large = lit≤ tt

pub version-small : (v : Version) → version_number v ≤ 2
version-small One = lit≤ tt
version-small Two = lit≤ tt

-- a name and a number are proper words
named-proper : (name : List ℕ) (n : ℕ) → is_proper name ≡ true → n < 10 ^ 64 → list_all is_proper (name ∷ decimal n ∷ []) ≡ true
named-proper name n h small = both_true h (both_true (decimal-proper n small) refl)

-- some of proper words are proper
chosen-proper : (bs : List Bool) (words : List (List ℕ)) → list_all is_proper words ≡ true → list_all is_proper (chosen bs words) ≡ true
chosen-proper [] words h = refl
chosen-proper (b ∷ bs) [] h = refl
chosen-proper (true ∷ bs) (word ∷ words) h =
    both_true (left-part (is_proper word) (list_all is_proper words) h) (chosen-proper bs words (right-part (is_proper word) (list_all is_proper words) h))
chosen-proper (false ∷ bs) (word ∷ words) h = chosen-proper bs words (right-part (is_proper word) (list_all is_proper words) h)

-- the words of the line of the memory
memory-proper : (v : Version) (memory : Extent) → are_proper (memory_lines v memory) ≡ true
memory-proper One memory = refl
memory-proper Two memory = both_true (named-proper (codes "memory") (memory_bytes memory) refl (omega (arith, memory-small memory))) refl

header-proper : (v : Version) (p : Problem) → IsProblem p → are_proper (header_lines v p) ≡ true
header-proper v p is =
    both_true (named-proper (codes "problem") (version_number v) refl (omega (arith, version-small v)))
    (both_true (named-proper (codes "word") p.size refl (omega (arith, is.size_most)))
    (both_true (named-proper (codes "mode") (mode_number p.mode) refl (omega (arith, mode-small p.mode)))
    (both_true (named-proper (codes "base") (radix p.base) refl (omega (arith, base-small p.base)))
    (both-proper (memory_lines v p.memory) (bound_lines p) (memory-proper v p.memory)
    (both_true (named-proper (codes "steps") p.steps refl (omega (arith, is.steps_most)))
    (both_true (named-proper (codes "paths") p.paths refl (omega (arith, is.paths_most)))
    (both_true (named-proper (codes "budget") p.budget refl (omega (arith, is.budget_most)))
    (both_true (both_true refl (chosen-proper p.observed part_names refl)) refl))))))))

-- ---- fixed parts

-- what a part is fixed at has at most 64 bits
limit-most : (size k : ℕ) → size ≤ 64 → part_limit size k ≤ 2 ^ 64
limit-most size k w = by_part (nat_lt k 5) (k == 5) (nat_lt k 12)
  where
    by_part : (a b c : Bool) → cond a (2 ^ size) (cond b (2 ^ 64) (cond c 2 1)) ≤ 2 ^ 64
    by_part true b c = pow-le-pow_right {n = 2} (lit≤ tt) w
    by_part false true c = lit≤ tt
    by_part false false true = lit≤ tt
    by_part false false false = lit≤ tt

pub fixed-short : (size k n : ℕ) → size ≤ 64 → nat_lt n (part_limit size k) ≡ true → n < 2 ^ 64
fixed-short size k n w h = omega (arith, ltb-true n (part_limit size k) h, limit-most size k w)

-- the words of the lines of fixed parts are proper
fix-proper : (size k : ℕ) (names : List (List ℕ)) (fs : List (Option ℕ)) → size ≤ 64 → list_all is_proper names ≡ true → are_fixed_from size k fs ≡ true
    → are_proper (fix_lines names fs) ≡ true
fix-proper size k [] fs w h is = refl
fix-proper size k (name ∷ names) [] w h is = refl
fix-proper size k (name ∷ names) (None ∷ fs) w h is = fix-proper size (suc k) names fs w (right-part (is_proper name) (list_all is_proper names) h) is
fix-proper size k (name ∷ names) (Some n ∷ fs) w h is =
    let small : n < 2 ^ 64 = fixed-short size k n w (left-part (nat_lt n (part_limit size k)) (are_fixed_from size (suc k) fs) is) in
    both_true (both_true refl (both_true (left-part (is_proper name) (list_all is_proper names) h) (both_true (hexadecimal-proper n small) refl)))
    (fix-proper size (suc k) names fs w (right-part (is_proper name) (list_all is_proper names) h) (right-part (nat_lt n (part_limit size k)) (are_fixed_from size (suc k) fs) is))

-- ---- routines

-- whether words are a line of no kind
abbrev pub is_operation_line : List (List ℕ) → Bool
is_operation_line [] = false
is_operation_line (word ∷ words) = not (is_some (named_as kind_name kinds word))

-- whether a code's words are proper, and no line of a problem's kinds
abbrev is_good_line : ℕ → Bool
is_good_line code = list_all is_proper (words_of (text_of_code code)) && is_operation_line (words_of (text_of_code code))

-- all 225 are so
line-good : (code : ℕ) → code < 225 → is_good_line code ≡ true
line-good code h =
    let all : passes_from is_good_line 0 225 ≡ true = refl in
    passes_at is_good_line 0 225 code all (omega arith) h

pub code-operation : (code : ℕ) → code < 225 → is_operation_line (words_of (text_of_code code)) ≡ true
code-operation code h = right-part (list_all is_proper (words_of (text_of_code code))) (is_operation_line (words_of (text_of_code code))) (line-good code h)

-- the words of the lines of assumptions are proper
assumed-proper : (assumed : List Assume) → All IsAssume assumed → are_proper (map assume_line assumed) ≡ true
assumed-proper [] are = refl
assumed-proper (a ∷ assumed) are =
    both_true (assumption-proper a (All-head IsAssume a assumed are)) (assumed-proper assumed (All-tail IsAssume a assumed are))

-- the words of the lines of a routine are proper
routine-proper : (routine : List ℕ) → AreCodes routine → are_proper (routine_lines routine) ≡ true
routine-proper [] codes_of = refl
routine-proper (code ∷ routine) codes_of =
    both_true
    (left-part (list_all is_proper (words_of (text_of_code code))) (is_operation_line (words_of (text_of_code code))) (line-good code (All-head (λ c. c < 225) code routine codes_of)))
    (routine-proper routine (All-tail (λ c. c < 225) code routine codes_of))

-- ---- all lines

-- the lines from those of the second routine, the first routine, the assumptions and the fixed parts on
abbrev pub from_second : Problem → List (List (List ℕ))
from_second p = (codes "second" ∷ []) ∷ (routine_lines p.second ++ (codes "end" ∷ []) ∷ [])

abbrev pub from_first : Problem → List (List (List ℕ))
from_first p = (codes "first" ∷ []) ∷ (routine_lines p.first ++ from_second p)

abbrev pub from_assumed : Problem → List (List (List ℕ))
from_assumed p = map assume_line p.assumed ++ from_first p

abbrev pub from_fixed : Problem → List (List (List ℕ))
from_fixed p = fix_lines part_names p.fixed ++ from_assumed p

-- the words of all lines are proper
pub lines-proper : (p : Problem) → IsProblem p → are_proper (problem_lines p) ≡ true
lines-proper p is =
    both-proper (header_lines (version p) p) (from_fixed p) (header-proper (version p) p is)
    (both-proper (fix_lines part_names p.fixed) (from_assumed p) (fix-proper p.size 0 part_names p.fixed is.size_most refl is.fixed_within)
    (both-proper (map assume_line p.assumed) (from_first p) (assumed-proper p.assumed is.assumed_numbers)
    (both_true refl
    (both-proper (routine_lines p.first) (from_second p) (routine-proper p.first is.first_routine.codes)
    (both_true refl
    (both-proper (routine_lines p.second) ((codes "end" ∷ []) ∷ []) (routine-proper p.second is.second_routine.codes) refl))))))
