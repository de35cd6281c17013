-- Worked problems and starts, each by computing it.
use Rattle.std.specs.Prelude.{◌≡◌, ℕ, List, [], ◌∷◌, ◌++◌, replicate, flat_map, codes, Result, Ok, Err, Option, Some, None, true, false}
use Rattle.hp_model.specs.declared.Base.TheVariants.{Hex}
use Rattle.hp_model.specs.declared.Mode.TheVariants.{Twos}
use Rattle.hp_model.specs.State.{Data}
use Rattle.hp_model.specs.declared.Extent.TheVariants.{Standard, Large}
use Rattle.jd_model.specs.declared.causes.AsmCause.TheVariants.{UnknownWord, TooManyLines}
use Rattle.jd_model.specs.declared.assumptions.Assume.{Assume}
use Rattle.jd_model.specs.declared.assumptions.Against.TheVariants.{Part, Number}
use Rattle.jd_model.specs.declared.assumptions.NumPart.TheVariants.{X, L}
use Rattle.jd_model.specs.declared.assumptions.Relation.TheVariants.{Lt, Ne}
use Rattle.jd_model.specs.declared.causes.ProblemCause.{ProblemCause}
use Rattle.jd_model.specs.declared.causes.ProblemCause.TheVariants.{Syntax, Range, Repeated, Missing, Asm}
use Rattle.jd_model.specs.Problems.{Problem, in_range, allows, bits, bits_of, free_bits, start_of, start_with}
use Rattle.jd_model.specs.ProblemTexts.{problem_of}
use Rattle.jd_model.specs.ProblemWriter.{problem_text}
use Rattle.jd_model.specs.StartTexts.{start_of_text, start_text}
use Rattle.jd_model.specs.WorkedTexts.{plus_lines}

abbrev pub line_and_cause : {A : Type 0} → Result A (ℕ × ProblemCause) → Option (ℕ × ProblemCause)
line_and_cause (Ok a) = None
line_and_cause (Err fault) = Some fault

-- ---- problems

abbrev pub doubling_head : List ℕ
doubling_head = codes "base 16\nsteps 10\npaths 1\nbudget 65536\n"

abbrev pub doubling_routines : List ℕ
doubling_routines = codes "first\nSL\nsecond\nENTER\n+\nend\n"

-- shifting to the left against adding a number to itself
abbrev pub doubling_text : List ℕ
doubling_text = codes "problem 1\nword 16\nmode 2\n" ++ doubling_head ++ codes "observe X Y Z L C\n" ++ doubling_routines

abbrev pub doubling : Problem
doubling = record {
  size = 16;
  mode = Twos;
  base = Hex;
  memory = Standard;
  steps = 10;
  paths = 1;
  budget = 65_536;
  observed = true ∷ true ∷ true ∷ false ∷ true ∷ false ∷ false ∷ false ∷ false ∷ false ∷ true ∷ false ∷ false ∷ [];
  fixed = replicate 13 None;
  assumed = [];
  first = 31 ∷ [];
  second = 20 ∷ 16 ∷ [];
}

-- the same problem with other separators, digits and empty lines, and text after it
abbrev pub doubling_told_otherwise : List ℕ
doubling_told_otherwise =
    codes "\r\nproblem 01\n\tword  16 \nmode 2\n\n" ++ doubling_head ++ codes "observe C L Z Y X\nfirst\n\n SL\nsecond\nENTER\r\n+\nend\nSL\n"

-- two empty routines
abbrev pub empty_routines : ℕ → Problem
empty_routines size = record {
  size = size;
  mode = Twos;
  base = Hex;
  memory = Standard;
  steps = 1;
  paths = 1;
  budget = 16;
  observed = true ∷ replicate 12 false;
  fixed = replicate 13 None;
  assumed = [];
  first = [];
  second = [];
}

abbrev pub empty_head : List ℕ
empty_head = codes "problem 1\nword 8\nmode 2\nbase 16\nsteps 1\npaths 1\nbudget 16\nobserve X\n"

-- the first bad line of a text that begins so
abbrev pub fault_after : List ℕ → List ℕ → Option (ℕ × ProblemCause)
fault_after head text = line_and_cause (problem_of (head ++ text))

abbrev pub base_head : List ℕ
base_head = codes "problem 1\nword 8\nmode 2\n"

pub record WorkedProblems : Type 0 where
  pub doubling_read : problem_of doubling_text ≡ Ok (doubling, 14)
  pub doubling_read_otherwise : problem_of doubling_told_otherwise ≡ Ok (doubling, 17)
  pub doubling_written : problem_text doubling ≡ doubling_text
  pub doubling_bits : free_bits doubling ≡ 1718
  pub most_bits : free_bits (empty_routines 64) ≡ 2014
  pub fixed_written : problem_text (record (empty_routines 8) { fixed = None ∷ Some 171 ∷ replicate 10 None ++ Some 0 ∷ [] })
      ≡ empty_head ++ codes "fix Y AB\nfix M 0\nfirst\nsecond\nend\n"
  pub fixed_read : problem_of (empty_head ++ codes "fix M 00\nfix Y aB\nfirst\nsecond\nend")
      ≡ Ok (record (empty_routines 8) { fixed = None ∷ Some 171 ∷ replicate 10 None ++ Some 0 ∷ [] }, 13)
  pub empty_input : fault_after [] [] ≡ Some (1, Missing)
  pub word_twice : fault_after [] (codes "problem 1\nword 16\nmode 2\nword 16\n" ++ doubling_head) ≡ Some (4, Repeated)
  pub no_mode : fault_after [] (codes "problem 1\nword 16\n" ++ doubling_head) ≡ Some (3, Missing)
  pub no_end : fault_after empty_head (codes "first\nsecond\n") ≡ Some (11, Missing)
  pub no_second : fault_after empty_head (codes "first\nend\n") ≡ Some (10, Missing)
  pub unknown_line : fault_after empty_head (codes "third\n") ≡ Some (9, Syntax)
  pub operation_before_first : fault_after empty_head (codes "SL\n") ≡ Some (9, Syntax)
  pub words_after_end : fault_after empty_head (codes "first\nsecond\nend now\n") ≡ Some (11, Syntax)
  pub version_0 : fault_after [] (codes "problem 0\n") ≡ Some (1, Range)
  pub version_3 : fault_after [] (codes "problem 3\n") ≡ Some (1, Range)
  pub word_0 : fault_after [] (codes "problem 1\nword 0\n") ≡ Some (2, Range)
  pub word_65 : fault_after [] (codes "problem 1\nword 65\n") ≡ Some (2, Range)
  pub mode_3 : fault_after [] (codes "problem 1\nword 8\nmode 3\n") ≡ Some (3, Range)
  pub base_7 : fault_after base_head (codes "base 7\n") ≡ Some (4, Range)
  pub steps_0 : fault_after base_head (codes "base 8\nsteps 0\n") ≡ Some (5, Range)
  pub steps_1001 : fault_after base_head (codes "base 8\nsteps 1001\n") ≡ Some (5, Range)
  pub paths_0 : fault_after base_head (codes "base 8\nsteps 1000\npaths 0\n") ≡ Some (6, Range)
  pub paths_65537 : fault_after base_head (codes "base 8\nsteps 1000\npaths 65537\n") ≡ Some (6, Range)
  pub budget_0 : fault_after base_head (codes "base 8\nsteps 1000\npaths 65536\nbudget 0\n") ≡ Some (7, Range)
  pub budget_1048577 : fault_after base_head (codes "base 8\nsteps 1000\npaths 65536\nbudget 1048577\n") ≡ Some (7, Range)
  pub syntax_before_repeated : fault_after [] (codes "problem 1\nproblem one\n") ≡ Some (2, Syntax)
  pub repeated_before_range : fault_after [] (codes "problem 1\nproblem 3\n") ≡ Some (2, Repeated)
  pub missing_before_range : fault_after [] (codes "problem 1\nmode 3\n") ≡ Some (2, Missing)
  pub hexadecimal_word : fault_after [] (codes "problem 1\nword A\n") ≡ Some (2, Syntax)
  pub eleven_digits : fault_after [] (codes "problem 1\nword 00000000016\n") ≡ Some (2, Syntax)
  pub ten_digits : fault_after [] (codes "problem 1\nword 9999999999\n") ≡ Some (2, Range)
  pub part_observed_twice : fault_after [] (codes "problem 1\nobserve X Y X\n") ≡ Some (2, Repeated)
  pub observed_too_early : fault_after [] (codes "problem 1\nobserve X Y\n") ≡ Some (2, Missing)
  pub no_part : fault_after [] (codes "problem 1\nobserve X 4\n") ≡ Some (2, Syntax)
  pub fixed_twice : fault_after empty_head (codes "fix X 1\nfix X 1\n") ≡ Some (10, Repeated)
  pub fixed_too_early : fault_after [] (codes "problem 1\nfix X 1\n") ≡ Some (2, Missing)
  pub fixed_too_late : fault_after empty_head (codes "first\nfix X 1\n") ≡ Some (10, Syntax)
  pub fixed_too_great : fault_after empty_head (codes "fix X 100\n") ≡ Some (9, Range)
  pub flag_too_great : fault_after empty_head (codes "fix C 2\n") ≡ Some (9, Range)
  pub memory_not_zero : fault_after empty_head (codes "fix M 1\n") ≡ Some (9, Range)
  pub unknown_operation : fault_after empty_head (codes "first\nsl\n") ≡ Some (10, Asm UnknownWord)
  pub longest_routine : fault_after empty_head (codes "first\n" ++ plus_lines 203 ++ codes "second\nend\n") ≡ None
  pub routine_too_long : fault_after empty_head (codes "first\n" ++ plus_lines 204 ++ codes "second\nend\n") ≡ Some (213, Asm TooManyLines)

-- ---- version 2

-- the headers of a problem of version 2 with two empty routines, on a machine of 609 bytes
abbrev pub large_head : List ℕ
large_head = codes "problem 2\nword 8\nmode 2\nbase 16\nmemory 609\nsteps 1\npaths 1\nbudget 16\nobserve X\n"

abbrev pub below_80 : Assume
below_80 = record { left = X; relation = Lt; right = Number 128 }

abbrev pub not_last : Assume
not_last = record { left = X; relation = Ne; right = Part L }

-- a problem that assumes twice that X is below 80, and that it isn't LAST X
abbrev pub assuming_small : Problem
assuming_small = record (empty_routines 8) { memory = Large; assumed = below_80 ∷ below_80 ∷ not_last ∷ [] }

-- so many lines that assume something
abbrev pub assume_lines : ℕ → List ℕ
assume_lines n = flat_map (λ line. line) (replicate n (codes "assume X lt 80\n"))

pub record WorkedVersions : Type 0 where
  pub assumed_read : problem_of (large_head ++ codes "assume X lt 080\nassume X lt 80\nassume X ne L\nfirst\nsecond\nend\n") ≡ Ok (assuming_small, 15)
  pub assumed_written : problem_text assuming_small ≡ large_head ++ codes "assume X lt 80\nassume X lt 80\nassume X ne L\nfirst\nsecond\nend\n"
  pub most_large_bits : free_bits (record (empty_routines 64) { memory = Large }) ≡ 5262
  pub first_version_will_do : problem_of (codes "\nproblem 02\nword 8\nmode 2\nbase 16\nmemory 203\nsteps 1\npaths 1\nbudget 16\nobserve X\nfirst\nsecond\nend\n")
      ≡ Ok (empty_routines 8, 13)
  pub memory_in_version_1 : fault_after (codes "problem 1\nword 8\nmode 2\nbase 16\n") (codes "memory 203\n") ≡ Some (5, Syntax)
  pub assume_in_version_1 : fault_after empty_head (codes "assume X lt 80\n") ≡ Some (9, Syntax)
  pub memory_in_a_routine_of_version_1 : fault_after empty_head (codes "first\nmemory 203\n") ≡ Some (10, Asm UnknownWord)
  pub no_memory : fault_after (codes "problem 2\nword 8\nmode 2\nbase 16\n") (codes "steps 1\n") ≡ Some (5, Missing)
  pub memory_204 : fault_after (codes "problem 2\nword 8\nmode 2\nbase 16\n") (codes "memory 204\n") ≡ Some (5, Range)
  pub memory_twice : fault_after large_head (codes "memory 609\n") ≡ Some (10, Repeated)
  pub version_twice : fault_after large_head (codes "problem 2\n") ≡ Some (10, Repeated)
  pub assumed_too_early : fault_after (codes "problem 2\nword 8\n") (codes "assume X lt 80\n") ≡ Some (3, Missing)
  pub assumed_too_late : fault_after large_head (codes "first\nassume X lt 80\n") ≡ Some (11, Syntax)
  pub fixed_after_assumed : fault_after large_head (codes "assume X lt 80\nfix Y 0\n") ≡ Some (11, Syntax)
  pub memory_in_a_routine : fault_after large_head (codes "first\nmemory 609\n") ≡ Some (11, Repeated)
  pub most_assumed : fault_after large_head (assume_lines 64 ++ codes "first\nsecond\nend\n") ≡ None
  pub one_more_assumed : fault_after large_head (assume_lines 65) ≡ Some (74, Range)
  pub syntax_before_range : fault_after large_head (assume_lines 64 ++ codes "assume X\n") ≡ Some (74, Syntax)
  pub no_relation : fault_after large_head (codes "assume X LT 80\n") ≡ Some (10, Syntax)
  pub flag_assumed : fault_after large_head (codes "assume C eq 1\n") ≡ Some (10, Syntax)
  pub against_number_f0 : fault_after large_head (codes "assume X eq F0\n") ≡ Some (11, Missing)
  pub against_seventeen_digits : fault_after large_head (codes "assume X eq 00000000000000000\n") ≡ Some (10, Syntax)

-- ---- starts

abbrev pub zero_start : List ℕ
zero_start = codes "start\nX 0\nY 0\nZ 0\nT 0\nL 0\nI 0\nflags 000000\nM\nend\n"

abbrev pub start_head : List ℕ
start_head = codes "start\nX 1\nY 0\nZ 0\nT 0\nL FF\nI 12c\n"

-- the start of these numbers, its nibbles filled up with zeros to 406
abbrev pub start_of_numbers : List ℕ → List ℕ → ℕ → Data
start_of_numbers firsts nibbles zeros = start_with (firsts ++ nibbles ++ replicate zeros 0)

-- the first bad line of a start that ends so, for two empty routines of 8 bits
abbrev pub start_fault : List ℕ → Option (ℕ × ProblemCause)
start_fault text = line_and_cause (start_of_text (empty_routines 8) text)

abbrev pub carry_fixed : Problem
carry_fixed = record (empty_routines 8) { fixed = replicate 10 None ++ Some 1 ∷ None ∷ None ∷ [] }

-- a start with X, LAST X being 12
abbrev pub assumed_start : List ℕ → List ℕ
assumed_start x = codes "start\nX " ++ x ++ codes "\nY 0\nZ 0\nT 0\nL 12\nI 0\nflags 000000\nM\nend\n"

pub record WorkedStarts : Type 0 where
  pub zero_written : start_text (start_of (empty_routines 16) (replicate 1774 false)) ≡ zero_start
  pub start_read : start_of_text (empty_routines 8) (start_head ++ codes "flags 010001\nM 0a0F00\nend\n")
      ≡ Ok (start_of_numbers (1 ∷ 0 ∷ 0 ∷ 0 ∷ 255 ∷ 300 ∷ 1 ∷ 0 ∷ 0 ∷ 0 ∷ 1 ∷ 0 ∷ []) (0 ∷ 10 ∷ 0 ∷ 15 ∷ []) 402)
  pub start_written : start_text (start_of_numbers (1 ∷ 0 ∷ 0 ∷ 0 ∷ 255 ∷ 300 ∷ 1 ∷ 0 ∷ 0 ∷ 0 ∷ 1 ∷ 0 ∷ []) (0 ∷ 10 ∷ 0 ∷ 15 ∷ []) 402)
      ≡ codes "start\nX 1\nY 0\nZ 0\nT 0\nL FF\nI 12C\nflags 010001\nM 0A0F\nend\n"
  pub all_nibbles : start_fault (start_head ++ codes "flags 000000\nM " ++ replicate 406 70 ++ codes "\nend\n") ≡ None
  pub nibble_too_many : start_fault (start_head ++ codes "flags 000000\nM " ++ replicate 407 48 ++ codes "\nend\n") ≡ Some (9, Range)
  pub two_words_of_nibbles : start_fault (start_head ++ codes "flags 000000\nM 0 0\nend\n") ≡ Some (9, Syntax)
  pub no_nibble : start_fault (start_head ++ codes "flags 000000\nM G\nend\n") ≡ Some (9, Syntax)
  pub no_flag : start_fault (start_head ++ codes "flags 000002\n") ≡ Some (8, Syntax)
  pub five_flags : start_fault (start_head ++ codes "flags 00000\n") ≡ Some (8, Syntax)
  pub too_great : start_fault (codes "start\nX 100\n") ≡ Some (2, Range)
  pub seventeen_digits : start_fault (codes "start\nX 00000000000000001\n") ≡ Some (2, Syntax)
  pub another_line : start_fault (codes "start\nY 0\n") ≡ Some (2, Syntax)
  pub line_after_end : start_fault (start_head ++ codes "flags 000000\nM\nend\n\nend\n") ≡ Some (12, Syntax)
  pub no_end : start_fault (start_head ++ codes "flags 000000\nM\n") ≡ Some (10, Missing)
  pub no_start : start_fault [] ≡ Some (1, Missing)
  pub fixed_flag : line_and_cause (start_of_text carry_fixed (start_head ++ codes "flags 010000\nM\nend\n")) ≡ None
  pub assumptions_met : line_and_cause (start_of_text assuming_small (assumed_start (codes "7F"))) ≡ None
  pub assumptions_not_met : line_and_cause (start_of_text assuming_small (assumed_start (codes "80"))) ≡ Some (10, Range)
  pub other_flag : line_and_cause (start_of_text carry_fixed (start_head ++ codes "flags 000000\nM\nend\n")) ≡ Some (8, Range)

-- ---- free bits

-- every part is fixed but Y, of three bits, and the flag F1
abbrev pub four_free : Problem
four_free = record (empty_routines 3) { fixed = Some 5 ∷ None ∷ replicate 5 (Some 0) ++ None ∷ replicate 5 (Some 0) }

pub record WorkedBits : Type 0 where
  pub count : free_bits four_free ≡ 4
  pub start : start_of four_free (false ∷ true ∷ true ∷ true ∷ [])
      ≡ start_of_numbers (5 ∷ 6 ∷ 0 ∷ 0 ∷ 0 ∷ 0 ∷ 0 ∷ 1 ∷ 0 ∷ 0 ∷ 0 ∷ 0 ∷ []) [] 406
  pub back : bits four_free (start_of four_free (false ∷ true ∷ true ∷ true ∷ [])) ≡ false ∷ true ∷ true ∷ true ∷ []
  pub allowed : allows four_free (start_of four_free (true ∷ true ∷ false ∷ false ∷ [])) ≡ true
  pub assumed_allowed : allows assuming_small (start_of assuming_small (bits_of 8 127 ++ replicate 4982 false)) ≡ true
  pub assumed_not_allowed : allows assuming_small (start_of assuming_small (bits_of 8 128 ++ replicate 4982 false)) ≡ false
  pub in_range_all_the_same : in_range assuming_small (start_of assuming_small (bits_of 8 128 ++ replicate 4982 false)) ≡ true
  pub not_allowed : allows four_free (record (start_of four_free (true ∷ true ∷ false ∷ false ∷ [])) { x = 4 }) ≡ false
