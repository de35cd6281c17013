-- Worked specs, each by computing it.
use Rattle.std.specs.Prelude.{◌≡◌, ℕ, List, [], ◌∷◌, ◌++◌, replicate, flat_map, codes, Result, Ok, Err, Option, Some, None, false}
use Rattle.hp_model.specs.declared.Base.TheVariants.{Hex}
use Rattle.hp_model.specs.declared.Mode.TheVariants.{Twos}
use Rattle.hp_model.specs.declared.Extent.TheVariants.{Standard}
use Rattle.jd_model.specs.declared.causes.AsmCause.TheVariants.{BadOperand, FloatKey, UnknownWord}
use Rattle.jd_model.specs.declared.assumptions.NumPart.TheVariants as p
use Rattle.jd_model.specs.declared.causes.ProblemCause.{ProblemCause}
use Rattle.jd_model.specs.declared.causes.ProblemCause.TheVariants.{Syntax, Range, Repeated, Missing, Asm}
use Rattle.jd_model.specs.Problems.{Problem}
use Rattle.jd_formulas.specs.declared.tokens.Token.TheVariants as w
use Rattle.jd_gives.specs.declared.parts.GivenPart.TheVariants as g
use Rattle.jd_gives.specs.declared.gives.Give.{Give}
use Rattle.jd_spec_texts.specs.SpecTexts.{spec_of}

abbrev pub line_and_cause : {A : Type 0} → Result A (ℕ × ProblemCause) → Option (ℕ × ProblemCause)
line_and_cause (Ok a) = None
line_and_cause (Err fault) = Some fault

-- the eight headers
abbrev pub head : List ℕ
head = codes "spec 1\nword 8\nmode 2\nbase 16\nmemory 203\nsteps 10\npaths 1\nbudget 4096\n"

-- a text of these lines after the headers
abbrev pub told : List ℕ → Option (ℕ × ProblemCause)
told lines = line_and_cause (spec_of (head ++ lines))

abbrev pub doubling : Problem
doubling = record {
  size = 8;
  mode = Twos;
  base = Hex;
  memory = Standard;
  steps = 10;
  paths = 1;
  budget = 4096;
  observed = replicate 13 false;
  fixed = replicate 13 None;
  assumed = [];
  first = 31 ∷ [];
  second = [];
}

abbrev pub doubling_gives : List Give
doubling_gives = record { part = g.X; formula = w.Mod 8 ∷ w.Plus ∷ w.Part p.X ∷ w.Part p.X ∷ [] }
    ∷ record { part = g.C; formula = w.Shr 7 ∷ w.Part p.X ∷ [] } ∷ []

-- so many sums with 0, of two words each, and a word more
abbrev pub sums : ℕ → List ℕ
sums n = flat_map (λ words. words) (replicate n (codes "+ 0 ")) ++ codes "X"

-- so many `assume` lines
abbrev pub assumptions : ℕ → List ℕ
assumptions n = flat_map (λ line. line) (replicate n (codes "assume X lt Y\n"))

pub record WorkedSpecs : Type 0 where
  pub whole : spec_of (head ++ codes "give X mod 8 + X X\ngive C shr 7 X\nroutine\nSL\nend\n") ≡ Ok (doubling, doubling_gives)
  pub other_separators : spec_of (head ++ codes "\n\tgive  X mod 08 +\tX X \r\ngive C shr 7 X\nroutine\n\nSL\nend") ≡ Ok (doubling, doubling_gives)
  pub no_give : told (codes "routine\nend\n") ≡ Some (9, Missing)
  pub no_end : told (codes "give X X\nroutine\nSL\n") ≡ Some (12, Missing)
  pub no_routine : told (codes "give X X\nend\n") ≡ Some (10, Missing)
  pub give_before_headers : line_and_cause (spec_of (codes "spec 1\nword 8\ngive X X\n")) ≡ Some (3, Missing)
  pub second_version : line_and_cause (spec_of (codes "spec 2\n")) ≡ Some (1, Range)
  pub problem_is_no_spec : line_and_cause (spec_of (codes "problem 1\n")) ≡ Some (1, Syntax)
  pub fix_after_assume : told (codes "assume X lt Y\nfix Z 0\n") ≡ Some (10, Syntax)
  pub fix_after_give : told (codes "give X X\nfix Z 0\n") ≡ Some (10, Syntax)
  pub assume_after_give : told (codes "give X X\nassume X lt Y\n") ≡ Some (10, Syntax)
  pub give_after_routine : told (codes "give X X\nroutine\ngive Y Y\n") ≡ Some (11, Syntax)
  pub after_the_end : told (codes "give X X\nroutine\nend\n\nend\n") ≡ Some (13, Syntax)
  pub header_after_the_end : told (codes "give X X\nroutine\nend\nword 8\n") ≡ Some (12, Syntax)
  pub header_in_the_routine : told (codes "give X X\nroutine\nword 8\n") ≡ Some (11, Repeated)
  pub part_twice : told (codes "give X X\ngive X Y\n") ≡ Some (10, Repeated)
  pub fixed_twice : told (codes "fix X 0\nfix X 1\n") ≡ Some (10, Repeated)
  pub memory_is_no_part : told (codes "give M 0\n") ≡ Some (9, Syntax)
  pub flag_is_no_formula : told (codes "give X G\n") ≡ Some (9, Syntax)
  -- F0 and C are hexadecimal numbers
  pub digits_are_a_number : told (codes "give X + F0 C\n") ≡ Some (10, Missing)
  pub formula_too_short : told (codes "give X + X\n") ≡ Some (9, Syntax)
  pub formula_too_long : told (codes "give X X Y\n") ≡ Some (9, Syntax)
  pub power_is_missing : told (codes "give X mod X\n") ≡ Some (9, Syntax)
  pub power_too_large : told (codes "give X mod 129 X\n") ≡ Some (9, Range)
  pub repeated_before_range : told (codes "give X X\ngive X mod 129 X\n") ≡ Some (10, Repeated)
  pub largest_power : told (codes "give X mod 128 X\n") ≡ Some (10, Missing)
  pub most_words : told (codes "give X mod 8 " ++ sums 31 ++ codes "\n") ≡ Some (10, Missing)
  pub word_too_many : told (codes "give X " ++ sums 32 ++ codes "\n") ≡ Some (9, Range)
  pub too_wide : told (codes "give X + * I I X\n") ≡ Some (9, Range)
  pub unknown_word : told (codes "observe X\n") ≡ Some (9, Syntax)
  pub unknown_key : told (codes "give X X\nroutine\nobserve X\n") ≡ Some (11, Asm UnknownWord)
  pub spec_without_number : line_and_cause (spec_of (codes "spec\n")) ≡ Some (1, Syntax)
  pub spec_twice : line_and_cause (spec_of (codes "spec 1\nspec 1\n")) ≡ Some (2, Repeated)
  pub spec_twice_out_of_range : line_and_cause (spec_of (codes "spec 1\nspec 2\n")) ≡ Some (2, Repeated)
  pub spec_twice_without_number : line_and_cause (spec_of (codes "spec 1\nspec\n")) ≡ Some (2, Syntax)
  pub header_first : line_and_cause (spec_of (codes "word 8\n")) ≡ Some (1, Missing)
  pub header_without_number : line_and_cause (spec_of (codes "spec 1\nword\n")) ≡ Some (2, Syntax)
  pub header_with_two_numbers : line_and_cause (spec_of (codes "spec 1\nword 8 8\n")) ≡ Some (2, Syntax)
  pub header_of_eleven_digits : line_and_cause (spec_of (codes "spec 1\nword 00000000008\n")) ≡ Some (2, Syntax)
  pub header_out_of_range : line_and_cause (spec_of (codes "spec 1\nword 65\n")) ≡ Some (2, Range)
  pub header_twice : line_and_cause (spec_of (codes "spec 1\nword 8\nword 8\n")) ≡ Some (3, Repeated)
  pub header_twice_out_of_range : line_and_cause (spec_of (codes "spec 1\nword 8\nword 65\n")) ≡ Some (3, Repeated)
  pub header_too_early : line_and_cause (spec_of (codes "spec 1\nmode 2\n")) ≡ Some (2, Missing)
  pub header_too_early_out_of_range : line_and_cause (spec_of (codes "spec 1\nmode 3\n")) ≡ Some (2, Missing)
  pub header_too_early_without_number : line_and_cause (spec_of (codes "spec 1\nmode\n")) ≡ Some (2, Syntax)
  pub memory_is_a_header : line_and_cause (spec_of (codes "spec 1\nword 8\nmode 2\nbase 16\nsteps 10\n")) ≡ Some (5, Missing)
  pub memory_out_of_range : line_and_cause (spec_of (codes "spec 1\nword 8\nmode 2\nbase 16\nmemory 204\n")) ≡ Some (5, Range)
  pub fix_without_number : told (codes "fix X\n") ≡ Some (9, Syntax)
  pub fix_after_routine : told (codes "give X X\nroutine\nfix X 0\n") ≡ Some (11, Syntax)
  pub fix_before_headers : line_and_cause (spec_of (codes "spec 1\nfix X 100\n")) ≡ Some (2, Missing)
  pub fix_out_of_range : told (codes "fix X 100\n") ≡ Some (9, Range)
  pub fixed_twice_out_of_range : told (codes "fix X 0\nfix X 100\n") ≡ Some (10, Repeated)
  pub fixed_twice_after_assume : told (codes "fix X 0\nassume X lt Y\nfix X 1\n") ≡ Some (11, Syntax)
  pub assume_without_number : told (codes "assume X lt\n") ≡ Some (9, Syntax)
  pub assume_of_no_relation : told (codes "assume X gt Y\n") ≡ Some (9, Syntax)
  pub assume_after_routine : told (codes "give X X\nroutine\nassume X lt Y\n") ≡ Some (11, Syntax)
  pub assume_before_headers : line_and_cause (spec_of (codes "spec 1\nassume X lt Y\n")) ≡ Some (2, Missing)
  pub most_assumptions : told (assumptions 64) ≡ Some (73, Missing)
  pub assumption_too_many : told (assumptions 65) ≡ Some (73, Range)
  pub give_alone : told (codes "give\n") ≡ Some (9, Syntax)
  pub give_without_formula : told (codes "give X\n") ≡ Some (9, Syntax)
  pub small_part : told (codes "give x X\n") ≡ Some (9, Syntax)
  pub part_twice_without_formula : told (codes "give X X\ngive X\n") ≡ Some (10, Syntax)
  pub give_before_headers_out_of_range : line_and_cause (spec_of (codes "spec 1\nword 8\ngive X mod 129 X\n")) ≡ Some (3, Missing)
  pub give_after_routine_twice : told (codes "give X X\nroutine\ngive X mod 129 X\n") ≡ Some (11, Syntax)
  pub first_bad_line : told (codes "give X mod 129 X\ngive Q X\n") ≡ Some (9, Range)
  pub largest_shift : told (codes "give X shr 128 X\n") ≡ Some (10, Missing)
  pub shift_too_large : told (codes "give X shr 129 X\n") ≡ Some (9, Range)
  pub power_nought : told (codes "give X mod 0 X\n") ≡ Some (10, Missing)
  pub power_of_eleven_digits : told (codes "give X mod 00000000008 X\n") ≡ Some (9, Syntax)
  pub power_in_hexadecimal : told (codes "give X mod F X\n") ≡ Some (9, Syntax)
  pub widest : told (codes "give X * I I\n") ≡ Some (10, Missing)
  pub widest_difference : told (codes "give X - * I I X\n") ≡ Some (10, Missing)
  pub product_too_wide : told (codes "give X * I + I I\n") ≡ Some (9, Range)
  pub too_wide_inside : told (codes "give X mod 8 * I + I I\n") ≡ Some (9, Range)
  pub sixteen_digits : told (codes "give X ffffFFFFffffFFFF\n") ≡ Some (10, Missing)
  pub seventeen_digits : told (codes "give X 00000000000000000\n") ≡ Some (9, Syntax)
  pub routine_with_a_word : told (codes "routine 1\n") ≡ Some (9, Syntax)
  pub routine_before_headers : line_and_cause (spec_of (codes "spec 1\nroutine\n")) ≡ Some (2, Missing)
  pub routine_twice : told (codes "give X X\nroutine\nroutine\n") ≡ Some (11, Repeated)
  pub routine_twice_with_a_word : told (codes "give X X\nroutine\nroutine 1\n") ≡ Some (11, Syntax)
  pub end_with_a_word : told (codes "give X X\nroutine\nend 1\n") ≡ Some (11, Syntax)
  pub end_first : line_and_cause (spec_of (codes "end\n")) ≡ Some (1, Missing)
  pub key_before_routine : told (codes "give X X\nSL\n") ≡ Some (10, Syntax)
  pub key_without_operand : told (codes "give X X\nroutine\nSTO\n") ≡ Some (11, Asm BadOperand)
  pub key_of_another_mode : told (codes "give X X\nroutine\nEEX\n") ≡ Some (11, Asm FloatKey)
  pub no_text : line_and_cause (spec_of []) ≡ Some (1, Missing)
  pub empty_lines : line_and_cause (spec_of (codes "\n \n")) ≡ Some (3, Missing)
