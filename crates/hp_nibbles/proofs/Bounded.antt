-- What holds of memory in orderly bytes.
use Rattle.std.proofs.Common.{◌≡◌, ℕ, ◌-◌, ◌/◌, ◌<◌, ◌≤◌, List, get_or, arith, refl, lit≤, nat_lt, Bool, true, false}
use Rattle.hp_model.specs.declared.Extent.{Extent}
use Rattle.hp_model.specs.declared.Extent.TheVariants.{Standard, Large}
use Rattle.std.proofs.lemmas.Bool.Decides.{nat_tests}
use Rattle.hp_model.specs.Lists.{tabulated}
use Rattle.hp_model.specs.State.{memory_bytes, large_bytes, register_nibbles}
use Rattle.hp_model.specs.Memory.{half_of}
use Rattle.hp_model.proofs.Tabulated.{length-tabulated, get-tabulated, get-tabulated_past}
use Rattle.hp_nibbles.proofs.ProgramLines.{length-lines_in, get-lines_in, get-lines_in_past}
use Rattle.hp_nibbles.specs.Bounds.{IsBounded}
use Rattle.hp_nibbles.specs.Bytes.{lines_in, memory_in, nibble_at, IsOrderly}

-- memory of either size is no more than the large one
pub few_bytes : (extent : Extent) → memory_bytes extent ≤ large_bytes
few_bytes Standard = lit≤ tt
few_bytes Large = lit≤ tt

module _ (end : ℕ) (few : end ≤ large_bytes) (bytes : List ℕ) (lines blocks : ℕ) (orderly : IsOrderly end bytes lines blocks) where
  code_at : (i : ℕ) (t : Bool) → nat_lt i lines ≡ t → get_or (lines_in end bytes lines) i 0 < 225
  code_at i true e =
      let inside : i < lines = grind (arith, nat_tests) in
      let lines_bound = orderly.lines_bound in
      rw (get-lines_in end bytes lines i inside) (orderly.lines_are_codes (end - 1 - i) (omega arith) (omega arith))
  code_at i false e =
      let past : lines ≤ i = grind (arith, nat_tests) in
      rw (get-lines_in_past end bytes lines i past) (omega arith)

  half_small : (byte j : ℕ) → byte < 256 → half_of byte j < 16
  half_small byte j h = grind (arith, nat_tests)

  digit_at : (j : ℕ) (t : Bool) → nat_lt j (register_nibbles end blocks) ≡ t → get_or (tabulated (nibble_at bytes) (register_nibbles end blocks)) j 0 < 16
  digit_at j true e =
      let inside : j < register_nibbles end blocks = grind (arith, nat_tests) in
      rw (get-tabulated (nibble_at bytes) (register_nibbles end blocks) j inside) (half_small (get_or bytes (j / 2) 0) j (orderly.all_are_bytes (j / 2)))
  digit_at j false e =
      let past : register_nibbles end blocks ≤ j = grind (arith, nat_tests) in
      rw (get-tabulated_past (nibble_at bytes) (register_nibbles end blocks) j past) (omega arith)

  pub is_bounded : IsBounded (memory_in end bytes lines blocks)
  is_bounded = record {
    bytes = few;
    lines = rw (length-lines_in end bytes lines) orderly.lines_bound;
    lines_in_blocks = rw (length-lines_in end bytes lines) orderly.lines_in_blocks;
    blocks = orderly.blocks_bound;
    codes = λ i. code_at i (nat_lt i lines) refl;
    nibbles = length-tabulated (nibble_at bytes) (register_nibbles end blocks);
    digits = λ j. digit_at j (nat_lt j (register_nibbles end blocks)) refl;
  }
