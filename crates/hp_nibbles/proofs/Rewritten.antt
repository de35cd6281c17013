-- What a written register leaves as it was.
use Rattle.std.proofs.Common.{◌≡◌, ℕ, ◌+◌, ◌-◌, ◌*◌, ◌/◌, ◌%◌, ◌<◌, ◌≤◌, List, get_or, arith, refl, sym, ◌∙◌}
use Rattle.std.proofs.lemmas.Bool.Decides.{nat_tests}
use Rattle.hp_model.specs.Lists.{tabulated}
use Rattle.hp_model.specs.State.{width, register_nibbles}
use Rattle.hp_model.specs.Memory.{half_of, nibble_written, with_register}
use Rattle.hp_model.proofs.Tabulated.{length-tabulated, get-tabulated, same_tabulated}
use Rattle.hp_nibbles.specs.Bytes.{lines_in, nibble_at, IsOrderly}
use Rattle.hp_nibbles.specs.Written.{written_at}

-- a byte is its two nibbles
pub byte_from_nibbles : (bytes : List ℕ) (b : ℕ) → get_or bytes b 0 ≡ nibble_at bytes (2 * b) + 16 * nibble_at bytes (2 * b + 1)
byte_from_nibbles bytes b =
    let even_place : 2 * b / 2 ≡ b = omega arith in
    let odd_place : (2 * b + 1) / 2 ≡ b = omega arith in
    let even : 2 * b % 2 ≡ 0 = omega arith in
    let odd : (2 * b + 1) % 2 ≡ 1 = omega arith in
    rw (even_place, odd_place, even, odd) (omega arith)

-- the bytes past the written nibbles stay
pub same_byte : (old new : List ℕ) (first count v b : ℕ) → ((i : ℕ) → nibble_at new i ≡ written_at old first count v i)
    → first + count ≤ 2 * b → get_or new b 0 ≡ get_or old b 0
same_byte old new first count v b written past =
    let lower : nibble_at new (2 * b) ≡ nibble_at old (2 * b) = grind (arith, nat_tests, written (2 * b)) in
    let upper : nibble_at new (2 * b + 1) ≡ nibble_at old (2 * b + 1) = grind (arith, nat_tests, written (2 * b + 1)) in
    byte_from_nibbles new b ∙ rw (lower, upper) (sym (byte_from_nibbles old b))

pub small_byte : (old new : List ℕ) (first count v b : ℕ) → ((i : ℕ) → nibble_at new i ≡ written_at old first count v i)
    → get_or old b 0 < 256 → get_or new b 0 < 256
small_byte old new first count v b written small =
    let lower : nibble_at new (2 * b) < 16 = small_nibble (2 * b) (omega arith) in
    let upper : nibble_at new (2 * b + 1) < 16 = small_nibble (2 * b + 1) (omega arith) in
    rw (byte_from_nibbles new b) (omega arith)
  where
    half_small : (byte j : ℕ) → byte < 256 → half_of byte j < 16
    half_small byte j h = grind (arith, nat_tests)

    small_nibble : (j : ℕ) → j / 2 ≡ b → nibble_at new j < 16
    small_nibble j at = let kept = half_small (get_or old (j / 2) 0) j (rw at small) in rw (written j) (grind (arith, nat_tests, kept))

pub still_orderly : (end : ℕ) (old new : List ℕ) (lines blocks first count v : ℕ) → ((i : ℕ) → nibble_at new i ≡ written_at old first count v i)
    → first + count ≤ register_nibbles end blocks → IsOrderly end old lines blocks → IsOrderly end new lines blocks
still_orderly end old new lines blocks first count v written inside orderly = record {
  lines_in_blocks = orderly.lines_in_blocks;
  lines_bound = orderly.lines_bound;
  blocks_bound = orderly.blocks_bound;
  unused_are_zero = λ b in_program past_lines.
      rw (same_byte old new first count v b written (omega arith)) (orderly.unused_are_zero b in_program past_lines);
  lines_are_codes = λ b in_lines in_bytes.
      rw (same_byte old new first count v b written (omega arith)) (orderly.lines_are_codes b in_lines in_bytes);
  all_are_bytes = λ b. small_byte old new first count v b written (orderly.all_are_bytes b);
}

pub same_program : (end : ℕ) (old new : List ℕ) (lines blocks first count v : ℕ) → ((i : ℕ) → nibble_at new i ≡ written_at old first count v i)
    → first + count ≤ register_nibbles end blocks → IsOrderly end old lines blocks → lines_in end new lines ≡ lines_in end old lines
same_program end old new lines blocks first count v written inside orderly =
    same_tabulated _ _ lines (λ i below. same_byte old new first count v (end - 1 - i) written (omega arith))

pub written_register : (old new : List ℕ) (n w r v : ℕ) → ((i : ℕ) → nibble_at new i ≡ written_at old (width w * r) (width w) v i)
    → tabulated (nibble_at new) n ≡ with_register w (tabulated (nibble_at old) n) r v
written_register old new n w r v written =
    rw (length-tabulated (nibble_at old) n) (same_tabulated _ (nibble_written w (tabulated (nibble_at old) n) r v) n (λ k below.
    let kept = get-tabulated (nibble_at old) n k below in
    written k ∙ rw kept refl))
