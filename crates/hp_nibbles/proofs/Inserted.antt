-- A line put into the program.
use Rattle.std.proofs.Common.{◌≡◌, ℕ, ◌+◌, ◌-◌, ◌*◌, ◌/◌, ◌<◌, ◌≤◌, ◌==◌, nat_lt, List, length, get_or, arith, refl, sym, ap, ◌∙◌, insert, Bool, true, false, if◌then◌else◌}
use Rattle.std.proofs.lemmas.List.Edits.{length-insert, get_or-insert_below, get_or-insert_at, get_or-insert_above}
use Rattle.std.proofs.lemmas.Bool.Decides.{nat_tests}
use Rattle.hp_model.specs.State.{blocks_of}
use Rattle.hp_model.specs.Memory.{edited}
use Rattle.hp_nibbles.proofs.ProgramLines.{length-lines_in, get-lines_in}
use Rattle.hp_nibbles.specs.Bytes.{lines_in, memory_in, IsOrderly}
use Rattle.hp_nibbles.specs.Edits.{byte_inserted, byte_cleared}
use Rattle.hp_nibbles.proofs.Edited.{IsEdit, at_size, orderly_at}

module _ (end : ℕ) (old : List ℕ) (lines blocks : ℕ) (orderly : IsOrderly end old lines blocks) (blocks_is : blocks ≡ blocks_of lines) where
  pub inserted_size : (after code : ℕ) → after ≤ lines → length (insert (lines_in end old lines) after code) ≡ lines + 1
  inserted_size after code inside = length-insert (lines_in end old lines) after code (omega (arith, length-lines_in end old lines)) ∙ ap (λ n. n + 1) (length-lines_in end old lines)

  line_inserted : (after code k : ℕ) → after ≤ lines → k ≤ lines
      → get_or (insert (lines_in end old lines) after code) k 0 ≡ (if nat_lt k after then get_or old (end - 1 - k) 0 else (if k == after then code else get_or old (end - k) 0))
  line_inserted after code k inside here = by_tests (nat_lt k after) (k == after) refl refl
    where
      by_tests : (below same : Bool) → nat_lt k after ≡ below → (k == after) ≡ same
          → get_or (insert (lines_in end old lines) after code) k 0 ≡ (if below then get_or old (end - 1 - k) 0 else (if same then code else get_or old (end - k) 0))
      by_tests true same e f =
          let front : k < after = grind (arith, nat_tests) in
          get_or-insert_below (lines_in end old lines) after code 0 k front (omega (arith, length-lines_in end old lines)) ∙ get-lines_in end old lines k (omega arith)
      by_tests false true e f =
          let at : k ≡ after = grind (arith, nat_tests) in
          rw at (get_or-insert_at (lines_in end old lines) after code 0 (omega (arith, length-lines_in end old lines)))
      by_tests false false e f =
          let past : after < k = grind (arith, nat_tests) in
          let next : k ≡ (k - 1) + 1 = omega arith in
          let place : end - k ≡ end - 1 - (k - 1) = omega arith in
          rw place (ap (λ n. get_or (insert (lines_in end old lines) after code) n 0) next
          ∙ get_or-insert_above (lines_in end old lines) after code 0 (k - 1) (omega arith) (omega (arith, length-lines_in end old lines)) ∙ get-lines_in end old lines (k - 1) (omega arith))

  cleared_line : (cleared : List ℕ) (k : ℕ) → k < lines → ((b : ℕ) → get_or cleared b 0 ≡ byte_cleared old (end - 7 * blocks_of (lines + 1)) (end - 7 * blocks) b)
      → get_or cleared (end - 1 - k) 0 ≡ get_or old (end - 1 - k) 0
  cleared_line cleared k inside clears =
      let within = orderly.lines_in_blocks in
      let few = orderly.lines_bound in
      let past : end - 7 * blocks ≤ end - 1 - k = omega arith in
      let one = clears (end - 1 - k) in
      grind (arith, nat_tests, one, past)

  put_line_at : (cleared new : List ℕ) (after code k : ℕ) → lines < end → after ≤ lines → k ≤ lines
      → ((b : ℕ) → get_or cleared b 0 ≡ byte_cleared old (end - 7 * blocks_of (lines + 1)) (end - 7 * blocks) b)
      → ((b : ℕ) → get_or new b 0 ≡ byte_inserted end cleared lines after code b)
      → get_or new (end - 1 - k) 0 ≡ (if nat_lt k after then get_or old (end - 1 - k) 0 else (if k == after then code else get_or old (end - k) 0))
  put_line_at cleared new after code k room inside here clears inserts = by_tests (nat_lt k after) (k == after) refl refl
    where
      by_tests : (below same : Bool) → nat_lt k after ≡ below → (k == after) ≡ same
          → get_or new (end - 1 - k) 0 ≡ (if below then get_or old (end - 1 - k) 0 else (if same then code else get_or old (end - k) 0))
      by_tests true same e f =
          let front : k < after = grind (arith, nat_tests) in
          let kept = cleared_line cleared k (omega arith) clears in
          let one : nat_lt (end - 1 - k) (end - 1 - lines) ≡ false = grind (arith, nat_tests) in
          let two : nat_lt (end - 1 - k) (end - 1 - after) ≡ false = grind (arith, nat_tests) in
          let three : (end - 1 - k == end - 1 - after) ≡ false = grind (arith, nat_tests) in
          inserts (end - 1 - k) ∙ rw (one, two, three) kept
      by_tests false true e f =
          let at : k ≡ after = grind (arith, nat_tests) in
          let one : nat_lt (end - 1 - k) (end - 1 - lines) ≡ false = grind (arith, nat_tests) in
          let two : nat_lt (end - 1 - k) (end - 1 - after) ≡ false = grind (arith, nat_tests) in
          let three : (end - 1 - k == end - 1 - after) ≡ true = grind (arith, nat_tests) in
          inserts (end - 1 - k) ∙ rw (one, two, three) refl
      by_tests false false e f =
          let past : after < k = grind (arith, nat_tests) in
          let kept = cleared_line cleared (k - 1) (omega arith) clears in
          let place : end - 1 - k + 1 ≡ end - 1 - (k - 1) = omega arith in
          let place2 : end - k ≡ end - 1 - (k - 1) = omega arith in
          let one : nat_lt (end - 1 - k) (end - 1 - lines) ≡ false = grind (arith, nat_tests) in
          let two : nat_lt (end - 1 - k) (end - 1 - after) ≡ true = grind (arith, nat_tests) in
          inserts (end - 1 - k) ∙ rw (one, two, place, place2) kept

  cleared_byte : (c from until b : ℕ) → c ≡ byte_cleared old from until b → c < 256
  cleared_byte c from until b is = let small = orderly.all_are_bytes b in grind (arith, nat_tests, is)

  inserted_byte : (cleared new : List ℕ) (after code b : ℕ) → code < 225
      → get_or cleared b 0 ≡ byte_cleared old (end - 7 * blocks_of (lines + 1)) (end - 7 * blocks) b
      → get_or cleared (b + 1) 0 ≡ byte_cleared old (end - 7 * blocks_of (lines + 1)) (end - 7 * blocks) (b + 1)
      → get_or new b 0 ≡ byte_inserted end cleared lines after code b → get_or new b 0 < 256
  inserted_byte cleared new after code b small here next is =
      let one = cleared_byte (get_or cleared b 0) _ _ b here in
      let two = cleared_byte (get_or cleared (b + 1) 0) _ _ (b + 1) next in
      rw is (grind (arith, nat_tests, one, two))

  pub insert_is_edit : (cleared new : List ℕ) (after code : ℕ) → lines < end → after ≤ lines → code < 225
      → ((b : ℕ) → get_or cleared b 0 ≡ byte_cleared old (end - 7 * blocks_of (lines + 1)) (end - 7 * blocks) b)
      → ((b : ℕ) → get_or new b 0 ≡ byte_inserted end cleared lines after code b)
      → IsEdit end old new blocks (insert (lines_in end old lines) after code)
  insert_is_edit cleared new after code room inside small clears inserts =
      let size = inserted_size after code inside in
      record {
        few = rw size (omega arith);
        bound = orderly.blocks_bound;
        lines = λ k below. let below' : k ≤ lines = omega (arith, size) in put_line_at cleared new after code k room inside below' clears inserts ∙ sym (line_inserted after code k inside below');
        codes = λ k below. let below' : k ≤ lines = omega (arith, size) in rw (line_inserted after code k inside below') (let one = orderly.lines_are_codes (end - 1 - k) in let two = orderly.lines_are_codes (end - k) in grind (arith, nat_tests, one, two));
        kept = λ b before now. let now' = rw size at now in let in_blocks = orderly.lines_in_blocks in let one = clears b in let two = inserts b in grind (arith, nat_tests, one, two);
        zero_now = λ b from past. let from' = rw size at from in let past' = rw size at past in let zero = orderly.unused_are_zero b in let one = clears b in let two = inserts b in grind (arith, nat_tests, one, two, zero);
        zero_before = λ b from past. let past' = rw size at past in let zero = orderly.unused_are_zero b in let one = clears b in let two = inserts b in grind (arith, nat_tests, one, two, zero);
        all_bytes = λ b. inserted_byte cleared new after code b small (clears b) (clears (b + 1)) (inserts b);
      }

module _ (end : ℕ) (whole : 7 * (end / 7) ≡ end) (old cleared new : List ℕ) (lines blocks after code count from until : ℕ) (orderly : IsOrderly end old lines blocks) (blocks_is : blocks ≡ blocks_of lines)
    (room : lines < end) (inside : after ≤ lines) (small : code < 225)
    (count_is : count ≡ blocks_of (lines + 1)) (from_is : from ≡ end - 7 * count) (until_is : until ≡ end - 7 * blocks)
    (clears : (b : ℕ) → get_or cleared b 0 ≡ byte_cleared old from until b)
    (inserts : (b : ℕ) → get_or new b 0 ≡ byte_inserted end cleared lines after code b) where
  edit : IsEdit end old new blocks (insert (lines_in end old lines) after code)
  edit = insert_is_edit end old lines blocks orderly blocks_is cleared new after code room inside small (rw (from_is, count_is, until_is) at clears) inserts

  pub insert_memory : memory_in end new (lines + 1) count ≡ edited (insert (lines_in end old lines) after code) (memory_in end old lines blocks)
  insert_memory = at_size end whole old new blocks _ lines (lines + 1) _ edit (inserted_size end old lines blocks orderly blocks_is after code inside) count_is

  pub insert_orderly : IsOrderly end new (lines + 1) count
  insert_orderly = orderly_at end whole old new blocks _ (lines + 1) _ edit (inserted_size end old lines blocks orderly blocks_is after code inside) count_is
