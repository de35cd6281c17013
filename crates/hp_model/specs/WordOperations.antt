-- What the operations on one or two words give: the new pattern, the carry and out of range. `w` is the word size.
use Rattle.std.specs.Prelude.{ℕ, zero, suc, ◌+◌, ◌-◌, ◌*◌, ◌/◌, ◌%◌, ◌^◌, ℤ, pos, ◌+ℤ◌, ◌-ℤ◌, ◌*ℤ◌, neg_ℤ, nat_abs, int_div, Bool, false, not, ◌==◌, nat_lt, nat_le, if◌then◌else◌, Some, None}
use Rattle.hp_model.specs.declared.Mode.{Mode}
use Rattle.hp_model.specs.declared.Mode.TheVariants.{Unsigned, Ones}
use Rattle.hp_model.specs.declared.Answer.{Answer}
use Rattle.hp_model.specs.Words.{value, low, fits, magnitude, bit}
use Rattle.hp_model.specs.Operations.{Rotation}
use Rattle.hp_model.specs.Operations as ops

-- a pattern, with both flags as they were
abbrev pub plain : ℕ → Answer
plain p = record { pattern = p; carry = None; range = None }

-- a pattern and a new carry
abbrev pub carrying : ℕ → Bool → Answer
carrying p c = record { pattern = p; carry = Some c; range = None }

-- a number's low pattern, out of range where it doesn't fit
abbrev pub ranged : ℕ → Mode → ℤ → Answer
ranged w mode v = record { pattern = low w mode v; carry = None; range = Some (not (fits w mode v)) }

-- sum and difference of patterns. In one's complement the carry comes around
abbrev pub sum_pattern : ℕ → Mode → ℕ → ℕ → ℕ
sum_pattern w Ones y x = if nat_lt (y + x) (2 ^ w) then y + x else y + x + 1 - 2 ^ w
sum_pattern w _ y x = (y + x) % 2 ^ w

abbrev pub difference_pattern : ℕ → Mode → ℕ → ℕ → ℕ
difference_pattern w Ones y x = if nat_lt y x then y + 2 ^ w - 1 - x else y - x
difference_pattern w _ y x = (y + 2 ^ w - x) % 2 ^ w

abbrev pub sum_of : ℕ → Mode → ℕ → ℕ → Answer
sum_of w mode y x = record {
  pattern = sum_pattern w mode y x;
  carry = Some (nat_le (2 ^ w) (y + x));
  range = Some (not (fits w mode (value w mode y +ℤ value w mode x)));
}

abbrev pub difference_of : ℕ → Mode → ℕ → ℕ → Answer
difference_of w mode y x = record {
  pattern = difference_pattern w mode y x;
  carry = Some (nat_lt y x);
  range = Some (not (fits w mode (value w mode y -ℤ value w mode x)));
}

abbrev pub product_of : ℕ → Mode → ℕ → ℕ → Answer
product_of w mode y x = ranged w mode (value w mode y *ℤ value w mode x)

-- the quotient cut towards zero, and what it leaves
abbrev pub rest_of : ℤ → ℤ → ℤ
rest_of dividend divisor = dividend -ℤ int_div dividend divisor *ℤ divisor

abbrev pub is_nonzero : ℤ → Bool
is_nonzero v = not (nat_abs v == 0)

abbrev pub quotient_of : ℕ → Mode → ℕ → ℕ → Answer
quotient_of w mode y x =
    let q = int_div (value w mode y) (value w mode x) in
    record {
      pattern = low w mode q;
      carry = Some (is_nonzero (rest_of (value w mode y) (value w mode x)));
      range = Some (not (fits w mode q));
    }

abbrev pub remainder_of : ℕ → Mode → ℕ → ℕ → Answer
remainder_of w mode y x = plain (low w mode (rest_of (value w mode y) (value w mode x)))

abbrev pub negation_pattern : ℕ → Mode → ℕ → ℕ
negation_pattern w Ones x = 2 ^ w - 1 - x
negation_pattern w _ x = (2 ^ w - x) % 2 ^ w

abbrev pub negation_of : ℕ → Mode → ℕ → Answer
negation_of w mode x = record {
  pattern = negation_pattern w mode x;
  carry = None;
  range = Some (not (fits w mode (neg_ℤ (value w mode x))));
}

abbrev pub absolute_of : ℕ → Mode → ℕ → Answer
absolute_of w mode x = ranged w mode (pos (magnitude w mode x))

-- the greatest r below r₀ + 2 ^ k, and not below r₀, whose square is at most n
abbrev pub root_from : ℕ → ℕ → ℕ → ℕ
root_from zero r₀ n = r₀
root_from (suc k) r₀ n =
    root_from k (if nat_le ((r₀ + 2 ^ k) * (r₀ + 2 ^ k)) n then r₀ + 2 ^ k else r₀) n

-- the greatest number of 32 bits whose square is at most n
abbrev pub root : ℕ → ℕ
root n = root_from 32 0 n

abbrev pub root_of : ℕ → Mode → ℕ → Answer
root_of w mode x =
    let r = root (magnitude w mode x) in
    record { pattern = r; carry = Some (nat_lt (r * r) (magnitude w mode x)); range = Some false }

-- both words of the double product, the upper one first
abbrev pub double_product : ℕ → Mode → ℕ → ℕ → ℕ × ℕ
double_product w mode y x =
    let p = low (2 * w) mode (value w mode y *ℤ value w mode x) in
    (p / 2 ^ w, p % 2 ^ w)

abbrev pub double_value : ℕ → Mode → ℕ → ℕ → ℤ
double_value w mode upper lower = value (2 * w) mode (upper * 2 ^ w + lower)

abbrev pub double_quotient : ℕ → Mode → ℕ → ℕ → ℕ → ℤ
double_quotient w mode upper lower x = int_div (double_value w mode upper lower) (value w mode x)

abbrev pub double_rest : ℕ → Mode → ℕ → ℕ → ℕ → ℤ
double_rest w mode upper lower x = rest_of (double_value w mode upper lower) (value w mode x)

abbrev pub double_quotient_of : ℕ → Mode → ℕ → ℕ → ℕ → Answer
double_quotient_of w mode upper lower x = record {
  pattern = low w mode (double_quotient w mode upper lower x);
  carry = Some (is_nonzero (double_rest w mode upper lower x));
  range = Some false;
}

abbrev pub double_remainder_of : ℕ → Mode → ℕ → ℕ → ℕ → Answer
double_remainder_of w mode upper lower x = plain (low w mode (double_rest w mode upper lower x))

abbrev pub bit_number : Bool → ℕ
bit_number b = if b then 1 else 0

abbrev pub top_bit : ℕ → ℕ → Bool
top_bit w x = bit x (w - 1)

abbrev pub shifted_left_of : ℕ → ℕ → Answer
shifted_left_of w x = carrying (2 * x % 2 ^ w) (top_bit w x)

abbrev pub shifted_right_of : ℕ → Answer
shifted_right_of x = carrying (x / 2) (bit x 0)

abbrev pub shifted_arithmetic_of : ℕ → Mode → ℕ → Answer
shifted_arithmetic_of w Unsigned x = shifted_right_of x
shifted_arithmetic_of w _ x = carrying (x / 2 + bit_number (top_bit w x) * 2 ^ (w - 1)) (bit x 0)

-- the word and the carry after one rotation
abbrev pub turned : Rotation → ℕ → ℕ → Bool → ℕ × Bool
turned ops.left w x c = (2 * x % 2 ^ w + bit_number (top_bit w x), top_bit w x)
turned ops.right w x c = (x / 2 + bit_number (bit x 0) * 2 ^ (w - 1), bit x 0)
turned ops.left_carry w x c = (2 * x % 2 ^ w + bit_number c, top_bit w x)
turned ops.right_carry w x c = (x / 2 + bit_number c * 2 ^ (w - 1), bit x 0)

abbrev pub turned_times : ℕ → Rotation → ℕ → ℕ → Bool → ℕ × Bool
turned_times zero way w x c = (x, c)
turned_times (suc n) way w x c = turned_times n way w (turned way w x c).0 (turned way w x c).1

abbrev pub rotated_of : Rotation → ℕ → ℕ → Bool → Answer
rotated_of way w x c = carrying (turned way w x c).0 (turned way w x c).1

-- so many rotations. The carry stays where there is none
abbrev pub rotated_times_of : Rotation → ℕ → ℕ → ℕ → Bool → Answer
rotated_times_of way w n x c = record {
  pattern = (turned_times n way w x c).0;
  carry = if n == 0 then None else Some (turned_times n way w x c).1;
  range = None;
}

-- how many bits x has, of k at most
abbrev pub binary_length : ℕ → ℕ → ℕ
binary_length zero x = 0
binary_length (suc k) x = if nat_lt x (2 ^ k) then binary_length k x else suc k

-- how far x goes to the left until its top bit is 1
abbrev pub left_shifts : ℕ → ℕ → ℕ
left_shifts w x = if x == 0 then 0 else w - binary_length w x

-- how many of the k lowest bits are 1
abbrev pub ones_below : ℕ → ℕ → ℕ
ones_below zero x = 0
ones_below (suc k) x = bit_number (bit x k) + ones_below k x

abbrev pub mask_left_pattern : ℕ → ℕ → ℕ
mask_left_pattern w m = 2 ^ w - 2 ^ (w - m)

abbrev pub mask_right_pattern : ℕ → ℕ
mask_right_pattern m = 2 ^ m - 1

abbrev pub with_bit : ℕ → ℕ → ℕ
with_bit y k = if bit y k then y else y + 2 ^ k

abbrev pub without_bit : ℕ → ℕ → ℕ
without_bit y k = if bit y k then y - 2 ^ k else y
