-- Digits written by nibbles and by whole bytes.
use Rattle.std.proofs.Common.{◌≡◌, ℕ, suc, ◌+◌, ◌-◌, ◌*◌, ◌/◌, ◌%◌, ◌^◌, ◌<◌, ◌≤◌, ◌==◌, Bool, true, false, nat_lt, nat_le, bit_and, List, arith, refl, sym, ap, ◌∙◌, add-one}
use Rattle.std.proofs.Math.Nat.{pow-suc, div-div-eq-div-mul}
use Rattle.std.proofs.lemmas.Nat.{and_mask}
use Rattle.std.proofs.lemmas.Bool.Decides.{nat_tests}
use Rattle.hp_nibbles.specs.Bytes.{nibble_at}
use Rattle.hp_nibbles.specs.Written.{written_at}
use Rattle.hp_nibbles.proofs.Sums.{of_bytes}

is_lt : (a b : ℕ) → a < b → nat_lt a b ≡ true
is_lt a b h = grind (arith, nat_tests)

not_lt : (a b : ℕ) → b ≤ a → nat_lt a b ≡ false
not_lt a b h = grind (arith, nat_tests)

is_le : (a b : ℕ) → a ≤ b → nat_le a b ≡ true
is_le a b h = grind (arith, nat_tests)

not_le : (a b : ℕ) → b < a → nat_le a b ≡ false
not_le a b h = grind (arith, nat_tests)

-- a digit within, one below and one above those that are written
pub at_written : (bytes : List ℕ) (first count v j : ℕ) → j < count → written_at bytes first count v (first + j) ≡ v / 16 ^ j % 16
at_written bytes first count v j inside =
    let place : first + j - first ≡ j = omega arith in
    rw (is_le first (first + j) (omega arith), is_lt (first + j) (first + count) (omega arith), place) refl

pub below_written : (bytes : List ℕ) (first count v i : ℕ) → i < first → written_at bytes first count v i ≡ nibble_at bytes i
below_written bytes first count v i below = rw (not_le first i below) refl

pub above_written : (bytes : List ℕ) (first count v i : ℕ) → first + count ≤ i → written_at bytes first count v i ≡ nibble_at bytes i
above_written bytes first count v i above = rw (is_le first i (omega arith), not_lt i (first + count) above) refl

-- cases on where a nibble is
by_order : (P : Type 0) (a b : ℕ) → (a < b → P) → (a ≡ b → P) → (b < a → P) → P
by_order P a b less same more = by_tests (nat_lt a b) (a == b) refl refl
  where
    by_tests : (t u : Bool) → nat_lt a b ≡ t → (a == b) ≡ u → P
    by_tests true u e f = less (grind (arith, nat_tests))
    by_tests false true e f = same (grind (arith, nat_tests))
    by_tests false false e f = more (grind (arith, nat_tests))

-- a digit below or above is the same after more are written
earlier : (bytes : List ℕ) (first n more v i : ℕ) → i < first + n → written_at bytes first n v i ≡ written_at bytes first (n + more) v i
earlier bytes first n more v i below = rw (is_lt i (first + n) below, is_lt i (first + (n + more)) (omega arith)) refl

later : (bytes : List ℕ) (first n more v i : ℕ) → first + (n + more) ≤ i → written_at bytes first n v i ≡ written_at bytes first (n + more) v i
later bytes first n more v i above = rw (not_lt i (first + n) (omega arith), not_lt i (first + (n + more)) above) refl

-- the digits of byte j
low_digit : (v j : ℕ) → bit_and (v / 2 ^ (8 * j)) 255 % 16 ≡ v / 16 ^ (2 * j) % 16
low_digit v j = rw (and_mask (v / 2 ^ (8 * j)) 8, of_bytes j) (omega arith)

high_digit : (v j : ℕ) → bit_and (v / 2 ^ (8 * j)) 255 / 16 ≡ v / 16 ^ (2 * j + 1) % 16
high_digit v j =
    let part : v / 16 ^ (2 * j) % 256 / 16 ≡ v / 16 ^ (2 * j) / 16 % 16 = omega arith in
    rw (and_mask (v / 2 ^ (8 * j)) 8, of_bytes j) (part ∙ ap (λ (k : ℕ). k % 16) (div-div-eq-div-mul v (16 ^ (2 * j)) 16 ∙ ap (λ (k : ℕ). v / k) (power (2 * j))))
  where
    power : (n : ℕ) → 16 ^ n * 16 ≡ 16 ^ (n + 1)
    power n = rw (add-one n) (sym (pow-suc 16 n))

next_digit : (v j : ℕ) → v / 16 / 16 ^ j % 16 ≡ v / 16 ^ suc j % 16
next_digit v j = ap (λ (k : ℕ). k % 16) (div-div-eq-div-mul v 16 (16 ^ j) ∙ ap (λ (k : ℕ). v / k) (power j))
  where
    power : (n : ℕ) → 16 * 16 ^ n ≡ 16 ^ suc n
    power n = omega (arith, pow-suc 16 n)

module _ (old before new : List ℕ) where
  -- one nibble more
  pub nibble_step : (first n v : ℕ) → ((i : ℕ) → nibble_at before i ≡ written_at old first n v i) → nibble_at new (first + n) ≡ v / 16 ^ n % 16
      → ((i : ℕ) → (i ≡ first + n → ⊥) → nibble_at new i ≡ nibble_at before i) → (i : ℕ) → nibble_at new i ≡ written_at old first (n + 1) v i
  nibble_step first n v prior here others i = by_order (nibble_at new i ≡ written_at old first (n + 1) v i) i (first + n)
      (λ below. others i (λ e. absurd (omega arith)) ∙ prior i ∙ earlier old first n 1 v i below)
      (λ at. rw at (here ∙ sym (at_written old first (n + 1) v n (omega arith))))
      (λ above. others i (λ e. absurd (omega arith)) ∙ prior i ∙ later old first n 1 v i (omega arith))

  -- one byte more
  pub bytes_step : (from j v : ℕ) → ((i : ℕ) → nibble_at before i ≡ written_at old (2 * from) (2 * j) v i)
      → nibble_at new (2 * (from + j)) ≡ bit_and (v / 2 ^ (8 * j)) 255 % 16
      → nibble_at new (2 * (from + j) + 1) ≡ bit_and (v / 2 ^ (8 * j)) 255 / 16
      → ((i : ℕ) → (i / 2 ≡ from + j → ⊥) → nibble_at new i ≡ nibble_at before i) → (i : ℕ) → nibble_at new i ≡ written_at old (2 * from) (2 * (j + 1)) v i
  bytes_step from j v prior lower upper others i = by_order (nibble_at new i ≡ written_at old (2 * from) (2 * (j + 1)) v i) i (2 * from + 2 * j)
      (λ below. others i (λ e. absurd (omega arith)) ∙ prior i ∙ earlier old (2 * from) (2 * j) 2 v i below ∙ more)
      (λ at. rw at (ap (nibble_at new) (omega arith) ∙ lower ∙ low_digit v j ∙ sym (at_written old (2 * from) (2 * (j + 1)) v (2 * j) (omega arith))))
      (λ past. by_order (nibble_at new i ≡ written_at old (2 * from) (2 * (j + 1)) v i) i (2 * from + (2 * j + 1))
      (λ below. absurd (omega arith))
      (λ at. rw at (ap (nibble_at new) (omega arith) ∙ upper ∙ high_digit v j ∙ sym (at_written old (2 * from) (2 * (j + 1)) v (2 * j + 1) (omega arith))))
      (λ above. others i (λ e. absurd (omega arith)) ∙ prior i ∙ later old (2 * from) (2 * j) 2 v i (omega arith) ∙ more))
    where
      more : written_at old (2 * from) (2 * j + 2) v i ≡ written_at old (2 * from) (2 * (j + 1)) v i
      more = ap (λ (n : ℕ). written_at old (2 * from) n v i) (omega arith)

  -- one nibble before the others
  pub nibble_first : (first count v : ℕ) → 1 ≤ count → nibble_at before first ≡ v % 16
      → ((i : ℕ) → (i ≡ first → ⊥) → nibble_at before i ≡ nibble_at old i)
      → ((i : ℕ) → nibble_at new i ≡ written_at before (first + 1) (count - 1) (v / 16) i) → (i : ℕ) → nibble_at new i ≡ written_at old first count v i
  nibble_first first count v some here others rest i = by_order (nibble_at new i ≡ written_at old first count v i) i first
      (λ below. rest i ∙ below_written before (first + 1) (count - 1) (v / 16) i (omega arith) ∙ others i (λ e. absurd (omega arith)) ∙ sym (below_written old first count v i below))
      (λ at. rw at (rest first ∙ below_written before (first + 1) (count - 1) (v / 16) first (omega arith) ∙ here ∙ first_digit))
      (λ past. by_order (nibble_at new i ≡ written_at old first count v i) i (first + count)
      (λ inside. rest i ∙ within past inside)
      (λ at. rest i ∙ outside past (omega arith))
      (λ above. rest i ∙ outside past (omega arith)))
    where
      first_digit : v % 16 ≡ written_at old first count v first
      first_digit =
          let place : first + 0 ≡ first = omega arith in
          let whole : v / 1 ≡ v = omega arith in
          ap (λ (k : ℕ). k % 16) (sym whole) ∙ sym (at_written old first count v 0 (omega arith)) ∙ ap (written_at old first count v) place

      outside : first < i → first + count ≤ i → written_at before (first + 1) (count - 1) (v / 16) i ≡ written_at old first count v i
      outside past above =
          above_written before (first + 1) (count - 1) (v / 16) i (omega arith) ∙ others i (λ e. absurd (omega arith)) ∙ sym (above_written old first count v i above)

      within : first < i → i < first + count → written_at before (first + 1) (count - 1) (v / 16) i ≡ written_at old first count v i
      within past inside =
          let place : i ≡ (first + 1) + (i - first - 1) = omega arith in
          let place' : first + suc (i - first - 1) ≡ i = omega arith in
          ap (written_at before (first + 1) (count - 1) (v / 16)) place
          ∙ at_written before (first + 1) (count - 1) (v / 16) (i - first - 1) (omega arith) ∙ next_digit v (i - first - 1)
          ∙ sym (at_written old first count v (suc (i - first - 1)) (omega arith)) ∙ ap (written_at old first count v) place'
