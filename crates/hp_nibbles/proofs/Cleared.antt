-- The program cleared, and the registers.
use Rattle.std.proofs.Common.{◌≡◌, ℕ, ◌+◌, ◌-◌, ◌*◌, ◌/◌, ◌<◌, ◌≤◌, List, [], length, get_or, replicate, arith, refl, sym, ◌∙◌}
use Rattle.std.proofs.lemmas.List.{ext_get_or, get_or-replicate, length-replicate}
use Rattle.std.proofs.lemmas.Bool.Decides.{nat_tests}
use Rattle.hp_model.specs.Lists.{tabulated}
use Rattle.hp_model.specs.State.{register_nibbles}
use Rattle.hp_model.specs.Memory.{edited}
use Rattle.hp_model.proofs.Tabulated.{length-tabulated, get-tabulated, same_tabulated}
use Rattle.hp_nibbles.specs.Bytes.{lines_in, memory_in, nibble_at, IsOrderly}
use Rattle.hp_nibbles.specs.Edits.{byte_cleared}
use Rattle.hp_nibbles.proofs.Edited.{IsEdit, at_size, orderly_at}

module _ (end : ℕ) (whole : 7 * (end / 7) ≡ end) (old new : List ℕ) (lines blocks : ℕ) (orderly : IsOrderly end old lines blocks) (clears : (b : ℕ) → get_or new b 0 ≡ byte_cleared old (end - 7 * blocks) end b) where
  clear_is_edit : IsEdit end old new blocks []
  clear_is_edit = record {
    few = omega arith;
    bound = orderly.blocks_bound;
    lines = λ k below. absurd (omega arith);
    codes = λ k below. absurd (omega arith);
    kept = λ b before now. let one = clears b in grind (arith, nat_tests, one);
    zero_now = λ b from past. absurd (omega arith);
    zero_before = λ b from past. let one = clears b in grind (arith, nat_tests, one);
    all_bytes = λ b. let one = orderly.all_are_bytes b in rw (clears b) (grind (arith, nat_tests, one));
  }

  pub clear_memory : memory_in end new 0 0 ≡ edited [] (memory_in end old lines blocks)
  clear_memory = at_size end whole old new blocks [] lines 0 0 clear_is_edit refl refl

  pub clear_orderly : IsOrderly end new 0 0
  clear_orderly = orderly_at end whole old new blocks [] 0 0 clear_is_edit refl refl

-- ---- the registers, cleared

module _ (end : ℕ) (whole : 7 * (end / 7) ≡ end) (old new : List ℕ) (lines blocks : ℕ) (orderly : IsOrderly end old lines blocks) (clears : (b : ℕ) → get_or new b 0 ≡ byte_cleared old 0 (end - 7 * blocks) b) where
  kept_byte : (b : ℕ) → end ≤ b + 7 * blocks → get_or new b 0 ≡ get_or old b 0
  kept_byte b past = let one = clears b in grind (arith, nat_tests, one)

  zero_nibble : (j : ℕ) → j < register_nibbles end blocks → nibble_at new j ≡ 0
  zero_nibble j inside =
      let zero : get_or new (j / 2) 0 ≡ 0 = let one = clears (j / 2) in grind (arith, nat_tests, one) in
      rw zero (grind (arith, nat_tests))

  pub no_registers : memory_in end new lines blocks ≡ record { bytes = end; program = lines_in end old lines; blocks = blocks; nibbles = replicate (length (tabulated (nibble_at old) (register_nibbles end blocks))) 0 }
  no_registers =
      let program : lines_in end new lines ≡ lines_in end old lines = same_tabulated _ _ lines (λ k below. kept_byte (end - 1 - k) (omega (arith, orderly.lines_in_blocks, orderly.lines_bound))) in
      let nibbles : tabulated (nibble_at new) (register_nibbles end blocks) ≡ replicate (register_nibbles end blocks) 0 =
      ext_get_or 0 _ _ (omega (arith, length-tabulated (nibble_at new) (register_nibbles end blocks), length-replicate {A = ℕ} (register_nibbles end blocks) 0))
      (λ j below. let inside : j < register_nibbles end blocks = omega (arith, length-tabulated (nibble_at new) (register_nibbles end blocks)) in
      get-tabulated (nibble_at new) (register_nibbles end blocks) j inside ∙ zero_nibble j inside ∙ sym (get_or-replicate (register_nibbles end blocks) j 0 0 inside)) in
      rw (program, length-tabulated (nibble_at old) (register_nibbles end blocks), nibbles) refl

  pub orderly_without_registers : IsOrderly end new lines blocks
  orderly_without_registers = record {
    lines_in_blocks = orderly.lines_in_blocks;
    lines_bound = orderly.lines_bound;
    blocks_bound = orderly.blocks_bound;
    unused_are_zero = λ b from past. kept_byte b from ∙ orderly.unused_are_zero b from past;
    lines_are_codes = λ b from past. rw (kept_byte b (omega (arith, orderly.lines_in_blocks))) (orderly.lines_are_codes b from past);
    all_are_bytes = λ b. let one = orderly.all_are_bytes b in rw (clears b) (grind (arith, nat_tests, one));
  }
