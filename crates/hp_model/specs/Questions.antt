-- The questions on the data that decide control.
use Rattle.std.specs.Prelude.{◌≡◌, ℕ, zero, suc, ◌^◌, ℤ, pos, int_lt, int_le, nat_abs, Bool, false, true, not, ◌&&◌, ◌==◌, nat_lt, nat_le, if◌then◌else◌, List, [], ◌∷◌, ◌++◌, map, Option, Some, None, ◌%◌}
use Rattle.hp_model.specs.Words.{value, fits, magnitude, bit}
use Rattle.hp_model.specs.Operations.{Test, Target, Place, Operation}
use Rattle.hp_model.specs.Operations as ops
use Rattle.hp_model.specs.State.{Control, Data, flag, index_bits, registers}
use Rattle.hp_model.specs.WordOperations.{sum_pattern, difference_pattern, double_quotient}

pub data Question : Type 0 where
  test_holds : Test → Question
  flag_is_set : ℕ → Question
  x_is_zero x_is_negative quotient_is_too_great : Question
  magnitude_above_size magnitude_at_least_size magnitude_above_64 : Question
  bit_of_y_is_set : Question
  decrement_is_zero increment_is_zero : Question
  index_past_registers index_above_15 : Question
  index_bit_is_set magnitude_bit_is_set : ℕ → Question

-- whether yes means an error, after which nothing more is asked
abbrev pub means_error : Question → Bool
means_error x_is_zero = true
means_error x_is_negative = true
means_error quotient_is_too_great = true
means_error magnitude_above_size = true
means_error magnitude_at_least_size = true
means_error magnitude_above_64 = true
means_error index_past_registers = true
means_error index_above_15 = true
means_error _ = false

-- the numbers below n
abbrev pub numbers_below : ℕ → List ℕ
numbers_below zero = []
numbers_below (suc n) = numbers_below n ++ n ∷ []

-- the questions for the register that the index register names
abbrev pub index_questions : Control → List Question
index_questions c = index_past_registers ∷ map index_bit_is_set (numbers_below (index_bits c.bytes))

abbrev pub label_questions : Target → List Question
label_questions (ops.label_named n) = []
label_questions ops.label_in_index = index_above_15 ∷ map index_bit_is_set (numbers_below 4)

abbrev pub place_questions : Control → Place → List Question
place_questions c ops.through_index = index_questions c
place_questions c _ = []

-- the questions of an operation in order
abbrev pub questions : Control → Operation → List Question
questions c (ops.test t) = test_holds t ∷ []
questions c (ops.test_flag n) = flag_is_set n ∷ []
questions c ops.divide = x_is_zero ∷ []
questions c ops.remainder = x_is_zero ∷ []
questions c ops.square_root = x_is_negative ∷ []
questions c ops.double_divide = x_is_zero ∷ quotient_is_too_great ∷ []
questions c ops.double_remainder = x_is_zero ∷ quotient_is_too_great ∷ []
questions c (ops.rotate_many way) = magnitude_above_size ∷ []
questions c ops.mask_left = magnitude_above_size ∷ []
questions c ops.mask_right = magnitude_above_size ∷ []
questions c ops.set_bit = magnitude_at_least_size ∷ []
questions c ops.clear_bit = magnitude_at_least_size ∷ []
questions c ops.test_bit = magnitude_at_least_size ∷ bit_of_y_is_set ∷ []
questions c ops.decrement_skip = decrement_is_zero ∷ []
questions c ops.increment_skip = increment_is_zero ∷ []
questions c (ops.store place) = place_questions c place
questions c (ops.recall place) = place_questions c place
questions c ops.exchange_through = index_questions c
questions c (ops.goto target) = label_questions target
questions c (ops.gosub target) = label_questions target
questions c ops.set_size = magnitude_above_64 ∷ map magnitude_bit_is_set (numbers_below 7)
questions c _ = []

-- the question that is next after these answers, if any
abbrev pub next_question : List Question → List Bool → Option Question
next_question [] given = None
next_question (q ∷ qs) [] = Some q
next_question (q ∷ qs) (answer ∷ given) = if means_error q && answer then None else next_question qs given

abbrev pub asks : Control → Operation → List Bool → Option Question
asks c op given = next_question (questions c op) given

-- whether these are the answers to exactly these questions: one to each, up to the first that means an error
abbrev pub are_complete : List Question → List Bool → Bool
are_complete [] [] = true
are_complete [] (answer ∷ given) = false
are_complete (q ∷ qs) [] = false
are_complete (q ∷ qs) (answer ∷ given) = are_complete (if means_error q && answer then [] else qs) given

-- these are answers to exactly the questions that an operation asks
abbrev pub IsComplete : Control → Operation → List Bool → Type 0
IsComplete c op given = are_complete (questions c op) given ≡ true

abbrev pub holds_of_test : Test → ℤ → ℤ → Bool
holds_of_test ops.at_most_y x y = int_le x y
holds_of_test ops.negative x y = int_lt x (pos 0)
holds_of_test ops.above_y x y = int_lt y x
holds_of_test ops.positive x y = int_lt (pos 0) x
holds_of_test ops.not_y x y = not (int_le x y && int_le y x)
holds_of_test ops.nonzero x y = not (nat_abs x == 0)
holds_of_test ops.equal_y x y = int_le x y && int_le y x
holds_of_test ops.is_zero x y = nat_abs x == 0

-- the index register as a word, less one or plus one
abbrev pub decremented : Control → Data → ℕ
decremented c d = difference_pattern c.size c.mode (d.index % 2 ^ c.size) 1

abbrev pub incremented : Control → Data → ℕ
incremented c d = sum_pattern c.size c.mode (d.index % 2 ^ c.size) 1

abbrev pub x_value : Control → Data → ℤ
x_value c d = value c.size c.mode d.x

abbrev pub x_magnitude : Control → Data → ℕ
x_magnitude c d = magnitude c.size c.mode d.x

-- whether the answer to a question is yes
abbrev pub holds : Question → Control → Data → Bool
holds (test_holds t) c d = holds_of_test t (x_value c d) (value c.size c.mode d.y)
holds (flag_is_set n) c d = flag d n
holds x_is_zero c d = x_magnitude c d == 0
holds x_is_negative c d = int_lt (x_value c d) (pos 0)
holds quotient_is_too_great c d = not (fits c.size c.mode (double_quotient c.size c.mode d.y d.z d.x))
holds magnitude_above_size c d = nat_lt c.size (x_magnitude c d)
holds magnitude_at_least_size c d = nat_le c.size (x_magnitude c d)
holds magnitude_above_64 c d = nat_lt 64 (x_magnitude c d)
holds bit_of_y_is_set c d = bit d.y (x_magnitude c d)
holds decrement_is_zero c d = magnitude c.size c.mode (decremented c d) == 0
holds increment_is_zero c d = magnitude c.size c.mode (incremented c d) == 0
holds index_past_registers c d = nat_le (registers c) d.index
holds index_above_15 c d = nat_lt 15 d.index
holds (index_bit_is_set k) c d = bit d.index k
holds (magnitude_bit_is_set k) c d = bit (x_magnitude c d) k

-- the answers that data gives, as far as anything is asked
abbrev pub answers_to : List Question → Control → Data → List Bool
answers_to [] c d = []
answers_to (q ∷ qs) c d = holds q c d ∷ (if means_error q && holds q c d then [] else answers_to qs c d)

abbrev pub answers : Control → Operation → Data → List Bool
answers c op d = answers_to (questions c op) c d
