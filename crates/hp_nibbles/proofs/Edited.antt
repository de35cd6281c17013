-- Memory after its program was edited.
use Rattle.std.proofs.Common.{◌≡◌, ℕ, ◌+◌, ◌-◌, ◌*◌, ◌/◌, ◌<◌, ◌≤◌, min, nat_lt, List, ◌++◌, length, get_or, take, replicate, arith, refl, sym, ap, ◌∙◌, length-append, Bool, true, false}
use Rattle.std.proofs.lemmas.List.{ext_get_or, get_or_append_left, get_or-append_right, get_or-take, get_or-replicate, length-replicate, length-take}
use Rattle.std.proofs.lemmas.Bool.Decides.{nat_tests}
use Rattle.hp_model.specs.Lists.{tabulated}
use Rattle.hp_model.specs.State.{register_nibbles, blocks_of}
use Rattle.hp_model.specs.Memory.{half_of, resized, edited}
use Rattle.hp_model.proofs.Tabulated.{length-tabulated, get-tabulated}
use Rattle.hp_nibbles.proofs.ProgramLines.{length-lines_in, get-lines_in}
use Rattle.hp_nibbles.specs.Bytes.{lines_in, memory_in, nibble_at, IsOrderly}

-- the bytes hold another program, the bytes that belong to no program stay, and the others that hold no line are zero
pub record IsEdit (end : ℕ) (old new : List ℕ) (blocks : ℕ) (program : List ℕ) : Type 0 where
  pub few : length program ≤ end
  pub bound : 7 * blocks ≤ end
  pub lines : (k : ℕ) → k < length program → get_or new (end - 1 - k) 0 ≡ get_or program k 0
  pub codes : (k : ℕ) → k < length program → get_or program k 0 < 225
  pub kept : (b : ℕ) → b + 7 * blocks < end → b + 7 * blocks_of (length program) < end → get_or new b 0 ≡ get_or old b 0
  pub zero_now : (b : ℕ) → end ≤ b + 7 * blocks_of (length program) → b + length program < end → get_or new b 0 ≡ 0
  pub zero_before : (b : ℕ) → end ≤ b + 7 * blocks → b + length program < end → get_or new b 0 ≡ 0
  pub all_bytes : (b : ℕ) → get_or new b 0 < 256

resized_tabulated : (f g : ℕ → ℕ) (n m : ℕ) → ((j : ℕ) → j < m → j < n → g j ≡ f j) → ((j : ℕ) → j < m → n ≤ j → g j ≡ 0)
    → tabulated g m ≡ take m (tabulated f n) ++ replicate (m - length (tabulated f n)) 0
resized_tabulated f g n m same zeros = ext_get_or 0 _ _ lengths at
  where
    size : length (take m (tabulated f n)) ≡ min m n
    size = length-take m (tabulated f n) ∙ ap (min m) (length-tabulated f n)

    lengths : length (tabulated g m) ≡ length (take m (tabulated f n) ++ replicate (m - length (tabulated f n)) 0)
    lengths = omega (arith, length-tabulated g m, length-tabulated f n, size, length-append (take m (tabulated f n)) (replicate (m - length (tabulated f n)) 0), length-replicate {A = ℕ} (m - length (tabulated f n)) 0)

    in_front : (i : ℕ) → i < m → i < n → get_or (tabulated g m) i 0 ≡ get_or (take m (tabulated f n) ++ replicate (m - length (tabulated f n)) 0) i 0
    in_front i inside before =
        let early : i < length (take m (tabulated f n)) = omega (arith, size) in
        get-tabulated g m i inside ∙ same i inside before ∙ sym (get-tabulated f n i before) ∙ sym (get_or-take m (tabulated f n) i 0 inside)
        ∙ sym (get_or_append_left (take m (tabulated f n)) (replicate (m - length (tabulated f n)) 0) 0 i early)

    behind : (i : ℕ) → i < m → n ≤ i → get_or (tabulated g m) i 0 ≡ get_or (take m (tabulated f n) ++ replicate (m - length (tabulated f n)) 0) i 0
    behind i inside past =
        let all : length (take m (tabulated f n)) ≡ n = omega (arith, size) in
        let room : i - n < m - length (tabulated f n) = omega (arith, length-tabulated f n) in
        get-tabulated g m i inside ∙ zeros i inside past ∙ sym (get_or-replicate (m - length (tabulated f n)) (i - n) 0 0 room)
        ∙ sym (get_or-append_right (take m (tabulated f n)) (replicate (m - length (tabulated f n)) 0) n i 0 all past)

    by_order : (i : ℕ) (t : Bool) → nat_lt i n ≡ t → i < m → get_or (tabulated g m) i 0 ≡ get_or (take m (tabulated f n) ++ replicate (m - length (tabulated f n)) 0) i 0
    by_order i true e inside = in_front i inside (grind (arith, nat_tests))
    by_order i false e inside = behind i inside (grind (arith, nat_tests))

    at : (i : ℕ) → i < length (tabulated g m) → get_or (tabulated g m) i 0 ≡ get_or (take m (tabulated f n) ++ replicate (m - length (tabulated f n)) 0) i 0
    at i below = by_order i (nat_lt i n) refl (omega (arith, length-tabulated g m))

module _ (end : ℕ) (whole : 7 * (end / 7) ≡ end) (old new : List ℕ) (blocks : ℕ) (program : List ℕ) (e : IsEdit end old new blocks program) where
  pub edit_is_orderly : IsOrderly end new (length program) (blocks_of (length program))
  edit_is_orderly = record {
    lines_in_blocks = omega arith;
    lines_bound = e.few;
    blocks_bound = omega (arith, e.few, whole);
    unused_are_zero = e.zero_now;
    lines_are_codes = λ b in_lines in_bytes.
        let place : end - 1 - (end - 1 - b) ≡ b = omega arith in
        let inside : end - 1 - b < length program = omega arith in
        rw (← place, e.lines (end - 1 - b) inside) (e.codes (end - 1 - b) inside);
    all_are_bytes = e.all_bytes;
  }

  edited_program : lines_in end new (length program) ≡ program
  edited_program = ext_get_or 0 _ program (length-tabulated _ (length program))
      (λ i below. let inside : i < length program = omega (arith, length-lines_in end new (length program)) in
      get-lines_in end new (length program) i inside ∙ e.lines i inside)

  zero_half : (b j : ℕ) → b ≡ 0 → half_of b j ≡ 0
  zero_half b j z = grind (arith, nat_tests)

  new_nibble : (j : ℕ) → j < register_nibbles end (blocks_of (length program)) → end ≤ j / 2 + 7 * blocks → nibble_at new j ≡ 0
  new_nibble j inside back = zero_half (get_or new (j / 2) 0) j (e.zero_before (j / 2) back (omega arith))

  kept_nibble : (j : ℕ) → j < register_nibbles end (blocks_of (length program)) → j < register_nibbles end blocks → nibble_at new j ≡ nibble_at old j
  kept_nibble j inside before = ap (λ b. half_of b j) (e.kept (j / 2) (omega arith) (omega arith))

  edited_nibbles : tabulated (nibble_at new) (register_nibbles end (blocks_of (length program))) ≡ resized end (blocks_of (length program)) (tabulated (nibble_at old) (register_nibbles end blocks))
  edited_nibbles = resized_tabulated (nibble_at old) (nibble_at new) (register_nibbles end blocks) (register_nibbles end (blocks_of (length program)))
      kept_nibble (λ j inside back. new_nibble j inside (omega (arith, e.bound)))

  pub edit_in : (lines : ℕ) → memory_in end new (length program) (blocks_of (length program)) ≡ edited program (memory_in end old lines blocks)
  edit_in lines = rw (edited_program, edited_nibbles) refl

pub at_size : (end : ℕ) → 7 * (end / 7) ≡ end → (old new : List ℕ) (blocks : ℕ) (program : List ℕ) (lines size count : ℕ) → IsEdit end old new blocks program → length program ≡ size → count ≡ blocks_of size
    → memory_in end new size count ≡ edited program (memory_in end old lines blocks)
at_size end whole old new blocks program lines size count e size_is count_is =
    ap (memory_in end new size) count_is ∙ ap (λ n. memory_in end new n (blocks_of n)) (sym size_is) ∙ edit_in end whole old new blocks program e lines

pub orderly_at : (end : ℕ) → 7 * (end / 7) ≡ end → (old new : List ℕ) (blocks : ℕ) (program : List ℕ) (size count : ℕ) → IsEdit end old new blocks program → length program ≡ size → count ≡ blocks_of size → IsOrderly end new size count
orderly_at end whole old new blocks program size count e size_is count_is = rw (count_is, ← size_is) (edit_is_orderly end whole old new blocks program e)
