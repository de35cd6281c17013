-- The kinds of operations by what they ask.
use Rattle.std.specs.Prelude.{◌≡◌, ℕ, List, [], ◌∷◌, map, ◌⊎◌}
use Rattle.hp_model.specs.Operations.{Test}
use Rattle.hp_model.specs.Operations as ops
use Rattle.hp_model.specs.State.{Control}
use Rattle.hp_model.specs.Questions.{Question, test_holds, flag_is_set, x_is_zero, x_is_negative, quotient_is_too_great, magnitude_above_size, magnitude_at_least_size, magnitude_above_64, bit_of_y_is_set, decrement_is_zero, increment_is_zero, magnitude_bit_is_set, numbers_below, index_questions, label_questions}
use Rattle.hp_ops.specs.declared.op.AskKind.{AskKind}
use Rattle.hp_ops.specs.declared.op.AskKind.TheVariants as kind

-- these are the questions of an operation of this kind
abbrev pub Asks : AskKind → Control → List Question → Type 0
Asks kind.Nothing c asked = asked ≡ []
Asks kind.Test c asked = (t : Test) × (asked ≡ test_holds t ∷ [])
Asks kind.Flag c asked = (n : ℕ) × (asked ≡ flag_is_set n ∷ [])
Asks kind.Divisor c asked = asked ≡ x_is_zero ∷ []
Asks kind.Negative c asked = asked ≡ x_is_negative ∷ []
Asks kind.Double c asked = asked ≡ x_is_zero ∷ quotient_is_too_great ∷ []
Asks kind.Count c asked = asked ≡ magnitude_above_size ∷ []
Asks kind.Bit c asked = asked ≡ magnitude_at_least_size ∷ []
Asks kind.BitTest c asked = asked ≡ magnitude_at_least_size ∷ bit_of_y_is_set ∷ []
Asks kind.Zero c asked = (asked ≡ decrement_is_zero ∷ []) ⊎ (asked ≡ increment_is_zero ∷ [])
Asks kind.Index c asked = asked ≡ index_questions c
Asks kind.Label c asked = asked ≡ label_questions ops.label_in_index
Asks kind.Size c asked = asked ≡ magnitude_above_64 ∷ map magnitude_bit_is_set (numbers_below 7)
