-- The numbers that answers spell, a word size and a register, and what no error says of them.
use Rattle.std.proofs.Common.{◌≡◌, ℕ, ◌^◌, ◌<◌, ◌≤◌, ◌||◌, Bool, true, false, List, [], ◌∷◌, map, None, arith, refl, sym, ap, ◌∙◌, nat_le, nat_lt}
use Rattle.std.proofs.lemmas.Bool.Decides.{nat_tests}
use Rattle.hp_model.specs.Words.{bit, number_of_bits}
use Rattle.hp_model.specs.State.{Control, Data, index_bits, large_bytes, register_nibbles, registers}
use Rattle.hp_model.specs.Operations.{Place, set_size}
use Rattle.hp_model.specs.Operations as ops
use Rattle.hp_model.specs.Questions.{IsComplete, answers, answers_to, index_bit_is_set, index_questions, magnitude_bit_is_set, numbers_below, x_magnitude}
use Rattle.hp_model.specs.ControlStep.{number_given, answer_at, error_if, error_of, place_error}
use Rattle.hp_model.proofs.Bits.{bits-spell, index-fits}
use Rattle.hp_model.proofs.CompleteAnswers.{size-few}
use Rattle.jd_content.specs.Places.{IsInside, IsSize}

-- ---- bits as answers

index_bits_answered : (ks : List ℕ) (c : Control) (d : Data) → answers_to (map index_bit_is_set ks) c d ≡ map (bit d.index) ks
index_bits_answered [] c d = refl
index_bits_answered (k ∷ ks) c d = ap (λ bs. bit d.index k ∷ bs) (index_bits_answered ks c d)

index_spelled : (n : ℕ) (c : Control) (d : Data) → d.index < 2 ^ n → number_of_bits (answers_to (map index_bit_is_set (numbers_below n)) c d) ≡ d.index
index_spelled n c d small = rw (index_bits_answered (numbers_below n) c d) (bits-spell d.index n small)

magnitude_bits_answered : (ks : List ℕ) (c : Control) (d : Data) → answers_to (map magnitude_bit_is_set ks) c d ≡ map (bit (x_magnitude c d)) ks
magnitude_bits_answered [] c d = refl
magnitude_bits_answered (k ∷ ks) c d = ap (λ bs. bit (x_magnitude c d) k ∷ bs) (magnitude_bits_answered ks c d)

magnitude_spelled : (n : ℕ) (c : Control) (d : Data) → x_magnitude c d < 2 ^ n → number_of_bits (answers_to (map magnitude_bit_is_set (numbers_below n)) c d) ≡ x_magnitude c d
magnitude_spelled n c d small = rw (magnitude_bits_answered (numbers_below n) c d) (bits-spell (x_magnitude c d) n small)

-- ---- the numbers

-- where the magnitude isn't above 64, the answers after the first spell it
pub size_told : (c : Control) (d : Data) (given : List Bool) → answers c set_size d ≡ given → answer_at 0 given ≡ false → number_given given ≡ x_magnitude c d
size_told c d given e h =
    let above : nat_lt 64 (x_magnitude c d) ≡ false = ap (answer_at 0) e ∙ h in
    let small : x_magnitude c d < 2 ^ 7 = grind (arith, nat_tests) in
    ap number_given (sym e) ∙ rw above (magnitude_spelled 7 c d small)

-- where the index register is below the count, the answers after the first spell it
pub index_told : (c : Control) (d : Data) (given : List Bool) → c.bytes ≤ large_bytes → answers_to (index_questions c) c d ≡ given → answer_at 0 given ≡ false
    → number_given given ≡ d.index
index_told c d given bounded e h =
    let past : nat_le (registers c) d.index ≡ false = ap (answer_at 0) e ∙ h in
    let inside : d.index < registers c = grind (arith, nat_tests) in
    let small : d.index < 2 ^ index_bits c.bytes = index-fits c.bytes c.blocks c.size d.index bounded inside in
    ap number_given (sym e) ∙ rw past (index_spelled (index_bits c.bytes) c d small)

-- ---- no error

pub not_erring : (n : ℕ) (b : Bool) → error_if n b ≡ None → b ≡ false
not_erring n true e = cc
not_erring n false e = refl

pub either : (p q : Bool) → (p || q) ≡ false → (p ≡ false) × (q ≡ false)
either true q e = cc
either false q e = (refl, e)

-- a register that is no error is among the nibbles
pub place_inside : (c : Control) (place : Place) (given : List Bool) → place_error c place given ≡ None → IsInside c.size (register_nibbles c.bytes c.blocks) place given
place_inside c (ops.register r) given e =
    let test = not_erring 3 (nat_le (registers c) r) e in
    grind (arith, nat_tests, test)
place_inside c ops.index_register given e = tt
place_inside c ops.through_index given e =
    let tests = either (answer_at 0 given) (nat_le (registers c) (number_given given)) (not_erring 3 _ e) in
    record { first = tests.0; below = grind (arith, nat_tests, tests.1) }

-- a word size that is no error
pub size_fine : (c : Control) (given : List Bool) → IsComplete c set_size given → error_of c set_size given ≡ None → IsSize given
size_fine c given whole e =
    let tests = either (answer_at 0 given) (nat_lt 64 (number_given given)) (not_erring 2 _ e) in
    record { few = size-few c given whole; first = tests.0; small = grind (arith, nat_tests, tests.1) }
