-- Memory that is made of codes and nibbles, and of zeros.
use Rattle.std.proofs.Common.{◌≡◌, ℕ, ◌+◌, ◌-◌, ◌*◌, ◌/◌, ◌%◌, ◌<◌, ◌≤◌, ◌==◌, nat_lt, List, length, get_or, arith, refl, sym, ap, ◌∙◌, Bool, true, false, if◌then◌else◌}
use Rattle.std.proofs.lemmas.List.{ext_get_or}
use Rattle.std.proofs.lemmas.Bool.Decides.{nat_tests}
use Rattle.hp_model.specs.Lists.{tabulated}
use Rattle.hp_model.specs.State.{register_nibbles}
use Rattle.hp_model.specs.Memory.{empty_memory, half_of}
use Rattle.hp_model.proofs.Tabulated.{length-tabulated, get-tabulated}
use Rattle.hp_nibbles.proofs.ProgramLines.{length-lines_in, get-lines_in}
use Rattle.hp_nibbles.specs.Bytes.{lines_in, memory_in, nibble_at, IsOrderly}
use Rattle.hp_nibbles.specs.Edits.{byte_with_lines}
use Rattle.hp_nibbles.specs.Written.{paired_byte}
use Rattle.hp_nibbles.proofs.Comparisons.{is_lt, not_lt, lt_tells, ge_tells}
use Rattle.hp_nibbles.proofs.Cleared.{no_registers}

module _ (end : ℕ) (zeros digits new : List ℕ) (codes nibbles : List ℕ) (blocks : ℕ) (all_zero : (b : ℕ) → get_or zeros b 0 ≡ 0)
    (in_blocks : length codes ≤ 7 * blocks) (bound : 7 * blocks ≤ end)
    (are_codes : (i : ℕ) → i < length codes → get_or codes i 0 < 225) (size : length nibbles ≡ register_nibbles end blocks)
    (are_digits : (i : ℕ) → i < length nibbles → get_or nibbles i 0 < 16)
    (puts_digits : (b : ℕ) → get_or digits b 0 ≡ (if nat_lt b (length nibbles / 2) then paired_byte nibbles b else get_or zeros b 0))
    (puts_lines : (b : ℕ) → get_or new b 0 ≡ byte_with_lines end digits codes b) where
  register_byte : (b : ℕ) → b < end - 7 * blocks → get_or new b 0 ≡ paired_byte nibbles b
  register_byte b inside =
      puts_lines b ∙ rw (is_lt b (end - length codes) (omega arith)) (puts_digits b ∙ rw (is_lt b (length nibbles / 2) (omega arith)) refl)

  unused_byte : (b : ℕ) → end ≤ b + 7 * blocks → b + length codes < end → get_or new b 0 ≡ 0
  unused_byte b from past =
      puts_lines b ∙ rw (is_lt b (end - length codes) (omega arith)) (puts_digits b ∙ rw (not_lt b (length nibbles / 2) (omega arith)) (all_zero b))

  line_byte : (b : ℕ) → end ≤ b + length codes → b < end → get_or new b 0 ≡ get_or codes (end - 1 - b) 0
  line_byte b from inside = puts_lines b ∙ rw (not_lt b (end - length codes) (omega arith), is_lt b end inside) refl

  past_byte : (b : ℕ) → end ≤ b → get_or new b 0 ≡ 0
  past_byte b past = puts_lines b ∙ rw (not_lt b (end - length codes) (omega arith), not_lt b end past) (puts_digits b ∙ rw (not_lt b (length nibbles / 2) (omega arith)) (all_zero b))

  small_byte : (b : ℕ) (in_lines in_all in_registers : Bool) → nat_lt b (end - length codes) ≡ in_lines → nat_lt b end ≡ in_all
      → nat_lt b (end - 7 * blocks) ≡ in_registers → get_or new b 0 < 256
  small_byte b x true true e f g =
      let inside = lt_tells b (end - 7 * blocks) g in
      let one = are_digits (2 * b) (omega arith) in
      let two = are_digits (2 * b + 1) (omega arith) in
      rw (register_byte b inside) (omega arith)
  small_byte b true true false e f g = rw (unused_byte b (omega (arith, ge_tells b (end - 7 * blocks) g)) (omega (arith, lt_tells b (end - length codes) e))) (omega arith)
  small_byte b false true false e f g =
      let inside = lt_tells b end f in
      let from = ge_tells b (end - length codes) e in
      let code = are_codes (end - 1 - b) (omega arith) in
      rw (line_byte b (omega arith) inside) (omega arith)
  small_byte b x false y e f g = rw (past_byte b (ge_tells b end f)) (omega arith)

  pub orderly_made : IsOrderly end new (length codes) blocks
  orderly_made = record {
    lines_in_blocks = in_blocks;
    lines_bound = omega arith;
    blocks_bound = bound;
    unused_are_zero = unused_byte;
    lines_are_codes = λ b from inside. rw (line_byte b from inside) (are_codes (end - 1 - b) (omega arith));
    all_are_bytes = λ b. small_byte b (nat_lt b (end - length codes)) (nat_lt b end) (nat_lt b (end - 7 * blocks)) refl refl refl;
  }

  half_of_pair : (low high j k : ℕ) → low < 16 → high < 16 → half_of (low + 16 * high) j ≡ (if j % 2 == 0 then low else high)
  half_of_pair low high j k small small' = grind (arith, nat_tests)

  digit_of : (j : ℕ) (even : Bool) → (j % 2 == 0) ≡ even → j < register_nibbles end blocks → nibble_at new j ≡ get_or nibbles j 0
  digit_of j true e inside =
      let zero : j % 2 ≡ 0 = grind (arith, nat_tests) in
      let place : 2 * (j / 2) ≡ j = omega arith in
      let one = are_digits (2 * (j / 2)) (omega arith) in
      let two = are_digits (2 * (j / 2) + 1) (omega arith) in
      ap (λ b. half_of b j) (register_byte (j / 2) (omega arith)) ∙ half_of_pair _ _ j 0 one two ∙ rw e (ap (λ k. get_or nibbles k 0) place)
  digit_of j false e inside =
      let odd : j % 2 ≡ 1 = grind (arith, nat_tests) in
      let place : 2 * (j / 2) + 1 ≡ j = omega arith in
      let one = are_digits (2 * (j / 2)) (omega arith) in
      let two = are_digits (2 * (j / 2) + 1) (omega arith) in
      ap (λ b. half_of b j) (register_byte (j / 2) (omega arith)) ∙ half_of_pair _ _ j 0 one two ∙ rw e (ap (λ k. get_or nibbles k 0) place)

  pub memory_made : memory_in end new (length codes) blocks ≡ record { bytes = end; program = codes; blocks = blocks; nibbles = nibbles }
  memory_made =
      let program : lines_in end new (length codes) ≡ codes =
      ext_get_or 0 _ _ (length-lines_in end new (length codes))
      (λ i below. let inside : i < length codes = omega (arith, length-lines_in end new (length codes)) in
      let place : end - 1 - (end - 1 - i) ≡ i = omega arith in
      get-lines_in end new (length codes) i inside ∙ line_byte (end - 1 - i) (omega arith) (omega arith) ∙ ap (λ k. get_or codes k 0) place) in
      let digits_are : tabulated (nibble_at new) (register_nibbles end blocks) ≡ nibbles =
      ext_get_or 0 _ _ (length-tabulated (nibble_at new) (register_nibbles end blocks) ∙ sym size)
      (λ j below. let inside : j < register_nibbles end blocks = omega (arith, length-tabulated (nibble_at new) (register_nibbles end blocks)) in
      get-tabulated (nibble_at new) (register_nibbles end blocks) j inside ∙ digit_of j (j % 2 == 0) refl inside) in
      rw (program, digits_are) refl

-- ---- new

module _ (end : ℕ) (whole : 7 * (end / 7) ≡ end) (zeros : List ℕ) (all_zero : (b : ℕ) → get_or zeros b 0 ≡ 0) where
  pub orderly_zeros : IsOrderly end zeros 0 0
  orderly_zeros = record {
    lines_in_blocks = omega arith;
    lines_bound = omega arith;
    blocks_bound = omega arith;
    unused_are_zero = λ b from past. all_zero b;
    lines_are_codes = λ b from past. absurd (omega arith);
    all_are_bytes = λ b. rw (all_zero b) (omega arith);
  }

  pub memory_of_zeros : memory_in end zeros 0 0 ≡ empty_memory end
  memory_of_zeros = no_registers end whole zeros zeros 0 0 orderly_zeros (λ b. let zero = all_zero b in grind (arith, nat_tests, zero))
      ∙ rw (length-tabulated (nibble_at zeros) (register_nibbles end 0)) refl
