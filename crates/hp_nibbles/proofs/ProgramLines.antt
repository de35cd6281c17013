-- The lines of a program in the bytes of memory.
use Rattle.std.proofs.Common.{◌≡◌, ℕ, ◌-◌, ◌*◌, ◌/◌, ◌<◌, ◌≤◌, List, length, get_or, refl}
use Rattle.hp_model.specs.declared.Extent.{Extent}
use Rattle.hp_model.specs.declared.Extent.TheVariants.{Standard, Large}
use Rattle.hp_model.specs.State.{memory_bytes}
use Rattle.hp_model.proofs.Tabulated.{length-tabulated, get-tabulated, get-tabulated_past}
use Rattle.hp_nibbles.specs.Bytes.{lines_in}

-- memory is whole blocks of seven bytes
pub whole_blocks : (extent : Extent) → 7 * (memory_bytes extent / 7) ≡ memory_bytes extent
whole_blocks Standard = refl
whole_blocks Large = refl

module _ (end : ℕ) (bytes : List ℕ) (lines : ℕ) where
  pub length-lines_in : length (lines_in end bytes lines) ≡ lines
  length-lines_in = length-tabulated (λ i. get_or bytes (end - 1 - i) 0) lines

  pub get-lines_in : (i : ℕ) → i < lines → get_or (lines_in end bytes lines) i 0 ≡ get_or bytes (end - 1 - i) 0
  get-lines_in i inside = get-tabulated (λ i. get_or bytes (end - 1 - i) 0) lines i inside

  pub get-lines_in_past : (i : ℕ) → lines ≤ i → get_or (lines_in end bytes lines) i 0 ≡ 0
  get-lines_in_past i past = get-tabulated_past (λ i. get_or bytes (end - 1 - i) 0) lines i past
