-- Differences and negatives from the carry of an adder. M is 2 to the size and H its half.
use Rattle.std.proofs.Common.{◌≡◌, ℕ, ◌+◌, ◌-◌, ◌*◌, ◌%◌, ◌^◌, ◌<◌, ◌≤◌, ◌==◌, ◌&&◌, Bool, true, false, not, nat_lt, nat_le, refl, sym, ap, ◌∙◌, arith, lit≤}
use Rattle.std.specs.Prelude.{if◌then◌else◌, Some, None, neg_ℤ}
use Rattle.std.proofs.lemmas.Bool.Decides.{nat_tests}
use Rattle.std.proofs.Math.Nat.{one-le-pow}
use Rattle.hp_model.specs.declared.Mode.TheVariants.{Unsigned, Ones, Twos}
use Rattle.hp_model.specs.Words.{fits, value}
use Rattle.hp_model.specs.WordOperations.{negation_of}
use Rattle.jd_vectors.specs.Number.{bit}
use Rattle.jd_rows.proofs.Range.{low_part, double_half, fits_negative, range_negative_twos, range_negative_ones, range_negative_unsigned}

above_carry : (M y x r t : ℕ) (k : Bool) → t + x ≡ y + M → r + M * bit k + x ≡ y + M → r + M * bit k ≡ t
above_carry M y x r t k e h = omega arith

-- in two's complement and unsigned mode
pub around : (M y x r : ℕ) (k : Bool) → x < M → r < M → r + M * bit k + x ≡ y + M → r ≡ (y + M - x) % M
around M y x r k hx hr h = sym (low_part M r (y + M - x) k hr (above_carry M y x r (y + M - x) k (omega arith) h))

-- in one's complement, where s and k are the difference and its carry, and r and n a sum with that carry
pub ends_around : (M y x o s r : ℕ) (k n : Bool) → y < M → x < M → s < M → r < M → s + M * bit k + x ≡ y + M → o + x + 1 ≡ M → r + M * bit n ≡ y + o + bit k
    → r ≡ (if nat_lt y x then y + M - 1 - x else y - x)
ends_around M y x o s r true true hy hx hs hr h e d = grind (arith, nat_tests)
ends_around M y x o s r true false hy hx hs hr h e d = absurd (omega arith)
ends_around M y x o s r false true hy hx hs hr h e d = absurd (omega arith)
ends_around M y x o s r false false hy hx hs hr h e d = grind (arith, nat_tests)

-- ---- negatives

pub unsigned_answer : (w x p y : ℕ) (k z : Bool) → y ≡ 0 → x < 2 ^ w → p < 2 ^ w → p + 2 ^ w * bit k + x ≡ y + 2 ^ w → z ≡ (x == 0)
    → record { pattern = p; carry = None; range = Some (not z) } ≡ negation_of w Unsigned x
unsigned_answer w x p y k z zero hx hp from ez =
    let e : p + 2 ^ w * bit k + x ≡ 0 + 2 ^ w = omega arith in
    let q : p ≡ (2 ^ w - x) % 2 ^ w = around (2 ^ w) 0 x p k hx hp e ∙ (let z : 0 + 2 ^ w ≡ 2 ^ w = omega arith in ap (λ m. (m - x) % 2 ^ w) z) in
    let r : not (fits w Unsigned (neg_ℤ (value w Unsigned x))) ≡ not (x == 0) = ap not (fits_negative w Unsigned x) ∙ range_negative_unsigned (2 ^ w) x (one-le-pow w 2 (lit≤ tt)) hx in
    rw (ez, r, sym q) refl

-- a word and its negative make the power, or both are 0
pub both_whole : (M x r : ℕ) (k : Bool) → x < M → r < M → r + M * bit k + x ≡ 0 + M → r + x ≡ M * bit (not k)
both_whole M x r true hx hr h = omega arith
both_whole M x r false hx hr h = omega arith

pub twos_answer : (w x p y : ℕ) (k tx tp o : Bool) → y ≡ 0 → 1 ≤ w → x < 2 ^ w → p < 2 ^ w → p + 2 ^ w * bit k + x ≡ y + 2 ^ w
    → tx ≡ nat_le (2 ^ (w - 1)) x → tp ≡ nat_le (2 ^ (w - 1)) p → o ≡ (tx && tp)
    → record { pattern = p; carry = None; range = Some o } ≡ negation_of w Twos x
twos_answer w x p y k tx tp o zero h hx hp from ex ep eo =
    let e : p + 2 ^ w * bit k + x ≡ 0 + 2 ^ w = omega arith in
    let q : p ≡ (2 ^ w - x) % 2 ^ w = around (2 ^ w) 0 x p k hx hp e ∙ (let z : 0 + 2 ^ w ≡ 2 ^ w = omega arith in ap (λ m. (m - x) % 2 ^ w) z) in
    let r : not (fits w Twos (neg_ℤ (value w Twos x))) ≡ (nat_le (2 ^ (w - 1)) x && nat_le (2 ^ (w - 1)) p) =
    ap not (fits_negative w Twos x) ∙ range_negative_twos (2 ^ (w - 1)) (2 ^ w) x p (not k) (one-le-pow (w - 1) 2 (lit≤ tt)) (double_half w h) hx hp (both_whole (2 ^ w) x p k hx hp e) in
    rw (eo, ex, ep, r, sym q) refl

pub ones_answer : (w x p : ℕ) → 1 ≤ w → x < 2 ^ w → p + x + 1 ≡ 2 ^ w → record { pattern = p; carry = None; range = Some false } ≡ negation_of w Ones x
ones_answer w x p h hx e =
    let r : not (fits w Ones (neg_ℤ (value w Ones x))) ≡ false = ap not (fits_negative w Ones x) ∙ range_negative_ones (2 ^ (w - 1)) (2 ^ w) x (one-le-pow (w - 1) 2 (lit≤ tt)) (double_half w h) hx in
    let q : p ≡ 2 ^ w - 1 - x = omega arith in
    rw (r, q) refl

-- an adder over the other bits of a number, with a carry
pub minus_turn : (n m y x o r b : ℕ) → n ≡ m → r + 2 ^ n * b ≡ y + o + 1 → o + x + 1 ≡ 2 ^ m → r + 2 ^ m * b + x ≡ y + 2 ^ m
minus_turn n m y x o r b e h k = let s : r + 2 ^ m * b ≡ y + o + 1 = ap (λ i. r + 2 ^ i * b) (sym e) ∙ h in omega arith

-- no borrow
pub not_below : (M a b r : ℕ) (k : Bool) → r < M → b < M → r + M * bit k + b ≡ a + M → not (not k) ≡ nat_le b a
not_below M a b r true hr hb e = grind (arith, nat_tests)
not_below M a b r false hr hb e = grind (arith, nat_tests)

pub at_size : (n m r b t : ℕ) → n ≡ m → r + 2 ^ n * b ≡ t → r + 2 ^ m * b ≡ t
at_size n m r b t e h = ap (λ i. r + 2 ^ i * b) (sym e) ∙ h

pub below_by_borrow : (M a b r : ℕ) (k : Bool) → r < M → b < M → r + M * bit k + b ≡ a + M → not k ≡ nat_lt a b
below_by_borrow M a b r true hr hb e = grind (arith, nat_tests)
below_by_borrow M a b r false hr hb e = grind (arith, nat_tests)
