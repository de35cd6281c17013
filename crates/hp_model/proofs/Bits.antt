-- The number that the answers on bits spell.
use Rattle.std.proofs.Common.{◌≡◌, ◌==◌, ℕ, zero, suc, ◌+◌, ◌*◌, ◌/◌, ◌%◌, ◌^◌, ◌≤◌, ◌<◌, Bool, true, false, List, [], ◌∷◌, ◌++◌, map, length, None, nat_le, arith, refl, ap, ◌∙◌, lit≤, if◌then◌else◌}
use Rattle.std.proofs.Math.Nat.{pow-suc, mod-eq_of_lt, one-le-pow, div-le_self}
use Rattle.std.proofs.Math.Arith.{mod-mul}
use Rattle.std.proofs.lemmas.Bool.Decides.{nat_tests}
use Rattle.std.proofs.lemmas.List.{length-append, length-map, map-append}
use Rattle.hp_model.specs.Words.{bit, number_of_bits}
use Rattle.hp_model.specs.State.{Control, Data, standard_bytes, large_bytes, index_bits, registers, register_nibbles, width}
use Rattle.hp_model.specs.Questions.{numbers_below, index_bit_is_set, answers_to, index_questions}
use Rattle.hp_model.specs.ControlStep.{place_error}
use Rattle.hp_model.specs.Operations as ops

pub length-numbers_below : (n : ℕ) → length (numbers_below n) ≡ n
length-numbers_below zero = refl
length-numbers_below (suc n) = length-append (numbers_below n) (n ∷ []) ∙ omega (arith, length-numbers_below n)

bit_as_number : (q : ℕ) → (if q % 2 == 1 then 1 else 0) ≡ q % 2
bit_as_number q = grind (arith, nat_tests)

-- the last bit counts as the power of two of its place
last_bit : (bs : List Bool) (b : Bool) → number_of_bits (bs ++ b ∷ []) ≡ number_of_bits bs + (if b then 1 else 0) * 2 ^ length bs
last_bit [] b = omega arith
last_bit (a ∷ bs) b = omega (arith, last_bit bs b, pow-suc 2 (length bs), ap (λ k. (if b then 1 else 0) * k) (pow-suc 2 (length bs)))

number_of_bits_below : (n k : ℕ) → number_of_bits (map (bit n) (numbers_below k)) ≡ n % 2 ^ k
number_of_bits_below n zero = omega arith
number_of_bits_below n (suc k) =
    let places : length (map (bit n) (numbers_below k)) ≡ k = length-map (numbers_below k) (bit n) ∙ length-numbers_below k in
    let parts : n % (2 * 2 ^ k) ≡ n / 2 ^ k % 2 * 2 ^ k + n % 2 ^ k = mod-mul n (lit≤ tt) (one-le-pow k 2 (lit≤ tt)) in
    let twice : 2 * 2 ^ k ≡ 2 ^ suc k = omega (arith, pow-suc 2 k) in
    ap number_of_bits (map-append (bit n) (numbers_below k) (k ∷ []))
    ∙ last_bit (map (bit n) (numbers_below k)) (bit n k)
    ∙ rw (places, number_of_bits_below n k, bit_as_number (n / 2 ^ k)) (omega (arith, parts, ap (λ p. n % p) twice))

-- so many bits, lowest first, spell a number that they hold
pub bits-spell : (n k : ℕ) → n < 2 ^ k → number_of_bits (map (bit n) (numbers_below k)) ≡ n
bits-spell n k small = number_of_bits_below n k ∙ mod-eq_of_lt small

bits_answered : (ks : List ℕ) (c : Control) (d : Data) → answers_to (map index_bit_is_set ks) c d ≡ map (bit d.index) ks
bits_answered [] c d = refl
bits_answered (k ∷ ks) c d = ap (λ bs. bit d.index k ∷ bs) (bits_answered ks c d)

-- the index bits hold the number of each register that there can be
pub index-fits : (bytes blocks w index : ℕ) → bytes ≤ large_bytes → index < register_nibbles bytes blocks / width w → index < 2 ^ index_bits bytes
index-fits bytes blocks w index bounded inside = by_size (nat_le bytes standard_bytes) refl
  where
    below : index < 2 * bytes
    below = omega (arith, div-le_self (register_nibbles bytes blocks) (width w))

    by_size : (t : Bool) → nat_le bytes standard_bytes ≡ t → index < 2 ^ (if t then 9 else 11)
    by_size true small = let h : bytes ≤ standard_bytes = grind (arith, nat_tests, small) in omega (arith, below)
    by_size false large = omega (arith, below)

-- a register below the count, named through RI, is no error
pub through_error : (c : Control) (d : Data) → c.bytes ≤ large_bytes → d.index < registers c →
    place_error c ops.through_index (answers_to (index_questions c) c d) ≡ None
through_error c d bounded inside =
    let below : nat_le (registers c) d.index ≡ false = grind (arith, nat_tests) in
    let small : d.index < 2 ^ index_bits c.bytes = index-fits c.bytes c.blocks c.size d.index bounded inside in
    rw (below, bits_answered (numbers_below (index_bits c.bytes)) c d, bits-spell d.index (index_bits c.bytes) small, below) refl
