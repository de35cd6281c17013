-- A line taken out of the program.
use Rattle.std.proofs.Common.{◌≡◌, ℕ, ◌+◌, ◌-◌, ◌*◌, ◌/◌, ◌<◌, ◌≤◌, ◌==◌, nat_lt, List, length, get_or, arith, refl, sym, ◌∙◌, remove, Bool, true, false, if◌then◌else◌}
use Rattle.std.proofs.lemmas.List.Edits.{length-remove, get_or-remove_below, get_or-remove_above}
use Rattle.std.proofs.lemmas.Bool.Decides.{nat_tests}
use Rattle.hp_model.specs.State.{blocks_of}
use Rattle.hp_model.specs.Memory.{edited}
use Rattle.hp_nibbles.proofs.ProgramLines.{length-lines_in, get-lines_in}
use Rattle.hp_nibbles.specs.Bytes.{lines_in, memory_in, IsOrderly}
use Rattle.hp_nibbles.specs.Edits.{byte_deleted}
use Rattle.hp_nibbles.proofs.Comparisons.{is_lt, not_lt, is_eq, not_eq, lt_tells, ge_tells}
use Rattle.hp_nibbles.proofs.Edited.{IsEdit, at_size, orderly_at}

same_side : (end i k : ℕ) → 1 ≤ i → i ≤ end → k ≤ end - 1 → nat_lt (end - i) (end - 1 - k) ≡ nat_lt k (i - 1)
same_side end i k some few here = grind (arith, nat_tests)

-- a line is deleted
module _ (end : ℕ) (old : List ℕ) (lines blocks : ℕ) (orderly : IsOrderly end old lines blocks) (blocks_is : blocks ≡ blocks_of lines) where
  pub deleted_size : (i : ℕ) → 1 ≤ i → i ≤ lines → length (remove (lines_in end old lines) (i - 1)) ≡ lines - 1
  deleted_size i some inside = omega (arith, length-remove (lines_in end old lines) (i - 1) (omega (arith, length-lines_in end old lines)), length-lines_in end old lines)

  line_deleted : (i k : ℕ) → 1 ≤ i → i ≤ lines → k + 1 < lines + 0 + 1 → k < lines - 1
      → get_or (remove (lines_in end old lines) (i - 1)) k 0 ≡ (if nat_lt k (i - 1) then get_or old (end - 1 - k) 0 else get_or old (end - 2 - k) 0)
  line_deleted i k some inside near here = by_test (nat_lt k (i - 1)) refl
    where
      size : length (lines_in end old lines) ≡ lines
      size = length-lines_in end old lines

      by_test : (t : Bool) → nat_lt k (i - 1) ≡ t → get_or (remove (lines_in end old lines) (i - 1)) k 0 ≡ (if t then get_or old (end - 1 - k) 0 else get_or old (end - 2 - k) 0)
      by_test true e =
          let front : k < i - 1 = grind (arith, nat_tests) in
          get_or-remove_below (lines_in end old lines) (i - 1) 0 k front (omega (arith, length-lines_in end old lines)) ∙ get-lines_in end old lines k (omega arith)
      by_test false e =
          let past : i - 1 ≤ k = grind (arith, nat_tests) in
          let place : end - 2 - k ≡ end - 1 - (k + 1) = omega arith in
          rw place (get_or-remove_above (lines_in end old lines) (i - 1) 0 k past (omega (arith, length-lines_in end old lines)) ∙ get-lines_in end old lines (k + 1) (omega arith))

  -- the bytes below the lines, the lowest line's byte, and the lines
  deleted_below : (new : List ℕ) (i b : ℕ) → ((b : ℕ) → get_or new b 0 ≡ byte_deleted end old lines i b) → b + lines < end → get_or new b 0 ≡ get_or old b 0
  deleted_below new i b deletes low = deletes b ∙ rw (is_lt b (end - lines) (omega arith)) refl

  deleted_lowest : (new : List ℕ) (i b : ℕ) → ((b : ℕ) → get_or new b 0 ≡ byte_deleted end old lines i b) → b + lines ≡ end → get_or new b 0 ≡ 0
  deleted_lowest new i b deletes at = deletes b ∙ rw (not_lt b (end - lines) (omega arith), is_eq b (end - lines) (omega arith)) refl

  deleted_line : (new : List ℕ) (i k : ℕ) → ((b : ℕ) → get_or new b 0 ≡ byte_deleted end old lines i b) → 1 ≤ i → i ≤ lines → lines ≤ end → k < lines - 1
      → get_or new (end - 1 - k) 0 ≡ (if nat_lt k (i - 1) then get_or old (end - 1 - k) 0 else get_or old (end - 2 - k) 0)
  deleted_line new i k deletes some inside few here =
      let place : end - 1 - k - 1 ≡ end - 2 - k = omega arith in
      deletes (end - 1 - k) ∙ rw (not_lt (end - 1 - k) (end - lines) (omega arith), not_eq (end - 1 - k) (end - lines) (omega arith), same_side end i k some (omega arith) (omega arith), place) refl

  deleted_zero : (new : List ℕ) (i b : ℕ) → ((b : ℕ) → get_or new b 0 ≡ byte_deleted end old lines i b) → 1 ≤ lines → end ≤ b + 7 * blocks → b + (lines - 1) < end → get_or new b 0 ≡ 0
  deleted_zero new i b deletes some from past = by_test (nat_lt (b + lines) end) refl
    where
      by_test : (t : Bool) → nat_lt (b + lines) end ≡ t → get_or new b 0 ≡ 0
      by_test true e = let low = lt_tells (b + lines) end e in deleted_below new i b deletes low ∙ orderly.unused_are_zero b from low
      by_test false e = let high = ge_tells (b + lines) end e in deleted_lowest new i b deletes (omega arith)

  deleted_byte : (i b : ℕ) → byte_deleted end old lines i b < 256
  deleted_byte i b = one_of (nat_lt b (end - lines)) (b == end - lines) (nat_lt (end - i) b) (get_or old b 0) (get_or old (b - 1) 0) (orderly.all_are_bytes b) (orderly.all_are_bytes (b - 1))
    where
      one_of : (s t u : Bool) (x y : ℕ) → x < 256 → y < 256 → (if s then x else (if t then 0 else (if u then x else y))) < 256
      one_of true t u x y p q = p
      one_of false true u x y p q = omega arith
      one_of false false true x y p q = p
      one_of false false false x y p q = q

  pub delete_is_edit : (new : List ℕ) (i : ℕ) → 1 ≤ i → i ≤ lines
      → ((b : ℕ) → get_or new b 0 ≡ byte_deleted end old lines i b)
      → IsEdit end old new blocks (remove (lines_in end old lines) (i - 1))
  delete_is_edit new i some inside deletes =
      let size = deleted_size i some inside in
      record {
        few = rw size (omega (arith, orderly.lines_bound));
        bound = orderly.blocks_bound;
        lines = λ k below. let below' : k < lines - 1 = omega (arith, size) in
            deleted_line new i k deletes some inside orderly.lines_bound below' ∙ sym (line_deleted i k some inside (omega arith) below');
        codes = λ k below. let below' : k < lines - 1 = omega (arith, size) in
            rw (line_deleted i k some inside (omega arith) below') (let few = orderly.lines_bound in let one = orderly.lines_are_codes (end - 1 - k) (omega arith) (omega arith) in let two = orderly.lines_are_codes (end - 2 - k) (omega arith) (omega arith) in grind (arith, nat_tests, one, two));
        kept = λ b before now. deleted_below new i b deletes (omega (arith, orderly.lines_in_blocks));
        zero_now = λ b from past. let from' = rw size at from in let past' = rw size at past in deleted_zero new i b deletes (omega arith) (omega arith) past';
        zero_before = λ b from past. let past' = rw size at past in deleted_zero new i b deletes (omega arith) from past';
        all_bytes = λ b. rw (deletes b) (deleted_byte i b);
      }

module _ (end : ℕ) (whole : 7 * (end / 7) ≡ end) (old new : List ℕ) (lines blocks i count : ℕ) (orderly : IsOrderly end old lines blocks) (blocks_is : blocks ≡ blocks_of lines)
    (some : 1 ≤ i) (inside : i ≤ lines) (count_is : count ≡ blocks_of (lines - 1)) (deletes : (b : ℕ) → get_or new b 0 ≡ byte_deleted end old lines i b) where
  pub delete_memory : memory_in end new (lines - 1) count ≡ edited (remove (lines_in end old lines) (i - 1)) (memory_in end old lines blocks)
  delete_memory = at_size end whole old new blocks _ lines (lines - 1) _ (delete_is_edit end old lines blocks orderly blocks_is new i some inside deletes) (deleted_size end old lines blocks orderly blocks_is i some inside) count_is

  pub delete_orderly : IsOrderly end new (lines - 1) count
  delete_orderly = orderly_at end whole old new blocks _ (lines - 1) _ (delete_is_edit end old lines blocks orderly blocks_is new i some inside deletes) (deleted_size end old lines blocks orderly blocks_is i some inside) count_is
