-- Worked rows of the operation table, and lists of answers.
use Rattle.std.specs.Prelude.{◌≡◌, ℕ, ◌-◌, ◌^◌, Bool, true, false, List, [], ◌∷◌, replicate, Some, None}
use Rattle.hp_model.specs.declared.Answer.{Answer}
use Rattle.hp_model.specs.declared.Mode.TheVariants.{Unsigned, Ones, Twos}
use Rattle.hp_model.specs.Operations.{Operation}
use Rattle.hp_model.specs.Operations as ops
use Rattle.hp_model.specs.State.{standard_bytes, large_bytes, reset}
use Rattle.hp_model.specs.Questions.{questions, are_complete}
use Rattle.hp_model.specs.Words.{fits}
use Rattle.hp_model.specs.WordOperations.{plain, carrying, sum_of, difference_of, product_of, quotient_of, remainder_of, negation_of, absolute_of, root_of, double_product, double_quotient, double_quotient_of, double_remainder_of, shifted_arithmetic_of, rotated_of, rotated_times_of, left_shifts, ones_below, mask_left_pattern, mask_right_pattern}

-- a pattern with both flags told
abbrev pub flagged : ℕ → Bool → Bool → Answer
flagged p carry range = record { pattern = p; carry = Some carry; range = Some range }

-- whether these answer all that an operation asks of a new machine
abbrev pub answer_all : ℕ → Operation → List Bool → Bool
answer_all bytes op given = are_complete (questions (reset bytes).control op) given

pub record WorkedAnswers : Type 0 where
  -- one's complement has its carry come around
  pub ones_sum : sum_of 4 Ones 12 12 ≡ flagged 9 true false
  pub ones_sum_to_negative_zero : sum_of 4 Ones 3 12 ≡ flagged 15 false false
  pub ones_difference : difference_of 4 Ones 3 3 ≡ flagged 0 false false
  pub ones_difference_with_borrow : difference_of 4 Ones 0 1 ≡ flagged 14 true false
  pub unsigned_difference : difference_of 8 Unsigned 5 6 ≡ flagged 255 true true
  pub twos_sum_out_of_range : sum_of 16 Twos 32767 1 ≡ flagged 32768 false true
  pub unsigned_product : product_of 8 Unsigned 255 255 ≡ record { pattern = 1; carry = None; range = Some true }
  -- quotients are cut towards zero, and remainders have the sign of the dividend
  pub quotient : quotient_of 8 Twos 249 2 ≡ flagged 253 true false
  pub quotient_out_of_range : quotient_of 8 Twos 128 255 ≡ flagged 128 false true
  pub rest : remainder_of 8 Twos 249 2 ≡ plain 255
  pub negative_zero : negation_of 1 Ones 0 ≡ record { pattern = 1; carry = None; range = Some false }
  pub unsigned_negation : negation_of 8 Unsigned 1 ≡ record { pattern = 255; carry = None; range = Some true }
  pub least_has_no_absolute : absolute_of 8 Twos 128 ≡ record { pattern = 128; carry = None; range = Some true }
  pub whole_root : root_of 8 Unsigned 10 ≡ flagged 3 true false
  pub greatest_root : root_of 64 Unsigned (2 ^ 64 - 1) ≡ flagged (2 ^ 32 - 1) true false
  -- double words
  pub double_words : double_product 8 Unsigned 255 255 ≡ (254, 1)
  pub divided_back : double_quotient_of 8 Unsigned 254 1 255 ≡ flagged 255 false false
  pub quotient_too_great : fits 64 Twos (double_quotient 64 Twos (2 ^ 63) 0 1) ≡ false
  pub double_rest : double_remainder_of 8 Twos 255 249 2 ≡ plain 255
  -- shifts and rotations
  pub sign_is_kept : shifted_arithmetic_of 8 Twos 129 ≡ carrying 192 true
  pub through_carry : rotated_of ops.left_carry 4 8 true ≡ carrying 1 true
  pub whole_turn : rotated_times_of ops.left 4 4 9 false ≡ carrying 9 true
  pub no_turn : rotated_times_of ops.left 4 0 9 true ≡ plain 9
  -- bits
  pub shifts_to_the_top : left_shifts 8 5 ≡ 5
  pub ones : ones_below 64 (2 ^ 64 - 1) ≡ 64
  pub whole_mask : mask_left_pattern 4 4 ≡ 15
  pub no_mask : mask_right_pattern 0 ≡ 0
  -- complete answers: ten for the register that RI names, or twelve in the larger machine, or one yes that means an error
  pub ten_answers : answer_all standard_bytes ops.exchange_through (replicate 10 false) ≡ true
  pub twelve_answers : answer_all large_bytes ops.exchange_through (replicate 12 false) ≡ true
  pub too_few_answers : answer_all large_bytes ops.exchange_through (replicate 10 false) ≡ false
  pub too_many_answers : answer_all standard_bytes ops.exchange_through (replicate 12 false) ≡ false
  pub yes_is_an_error : answer_all standard_bytes ops.exchange_through (true ∷ []) ≡ true
  pub nothing_after_an_error : answer_all standard_bytes ops.exchange_through (true ∷ false ∷ []) ≡ false
  pub nothing_asked : answer_all standard_bytes ops.add [] ≡ true
