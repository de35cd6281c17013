-- Where a nibble lies.
use Rattle.std.proofs.Common.{◌≡◌, ℕ, ◌+◌, ◌-◌, ◌*◌, ◌/◌, ◌<◌, ◌≤◌, List, get_or, arith}
use Rattle.std.proofs.lemmas.Bool.Decides.{nat_tests}
use Rattle.hp_model.specs.State.{register_nibbles}
use Rattle.hp_model.specs.Memory.{nibble_of, program_byte}
use Rattle.hp_model.proofs.Tabulated.{get-tabulated}
use Rattle.hp_nibbles.proofs.ProgramLines.{get-lines_in, get-lines_in_past}
use Rattle.hp_nibbles.specs.Bytes.{memory_in, nibble_at, IsOrderly}

-- a byte of the program is that byte
pub program_byte_in : (end : ℕ) (bytes : List ℕ) (lines blocks b : ℕ) → IsOrderly end bytes lines blocks → b < end → end ≤ b + 7 * blocks →
    program_byte (memory_in end bytes lines blocks) b ≡ get_or bytes b 0
program_byte_in end bytes lines blocks b orderly inside in_program =
    grind (arith, get-lines_in end bytes lines (end - 1 - b), get-lines_in_past end bytes lines (end - 1 - b), orderly.unused_are_zero b)

-- a nibble of the memory is that half of its byte
pub nibble_in : (end : ℕ) (bytes : List ℕ) (lines blocks j : ℕ) → IsOrderly end bytes lines blocks → j < 2 * end →
    nibble_of (memory_in end bytes lines blocks) j ≡ nibble_at bytes j
nibble_in end bytes lines blocks j orderly inside =
    let one = get-tabulated (nibble_at bytes) (register_nibbles end blocks) j in
    let two = program_byte_in end bytes lines blocks (j / 2) orderly in
    grind (arith, nat_tests, one, two)
