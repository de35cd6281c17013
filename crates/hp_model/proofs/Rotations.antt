-- One rotation left and one right give the word back.
use Rattle.std.proofs.Common.{◌≡◌, ℕ, ◌+◌, ◌-◌, ◌*◌, ◌/◌, ◌%◌, ◌^◌, ◌≤◌, ◌<◌, Bool, true, false, ◌==◌, refl, sym, ap, arith, ◌∙◌, lit≤}
use Rattle.std.proofs.Math.Nat.{mod-eq_of_lt, mod-lt, one-le-pow}
use Rattle.std.proofs.lemmas.Nat.{mod-pow-add, mod-mul-add}
use Rattle.std.proofs.lemmas.Bool.Decides.{nat_tests}
use Rattle.hp_model.specs.Operations as ops
use Rattle.hp_model.specs.Words.{bit}
use Rattle.hp_model.specs.WordOperations.{turned, top_bit, bit_number}
use Rattle.hp_model.proofs.WordValues.{doubled}

-- a bit as a number
bit_is_rest : (n : ℕ) → bit_number (n % 2 == 1) ≡ n % 2
bit_is_rest n = grind (arith, nat_tests)

-- a word by its top bit and the rest
top_first : (w x : ℕ) → 1 ≤ w → x < 2 ^ w → x ≡ bit_number (top_bit w x) * 2 ^ (w - 1) + x % 2 ^ (w - 1)
top_first w x h inside =
    let size : 1 + (w - 1) ≡ w = omega arith in
    sym (mod-eq_of_lt inside) ∙ ap (λ n. x % 2 ^ n) (sym size) ∙ mod-pow-add x 1 (w - 1) ∙ rw (bit_is_rest (x / 2 ^ (w - 1))) refl

rest_small : (w x : ℕ) → x % 2 ^ (w - 1) < 2 ^ (w - 1)
rest_small w x = mod-lt x (one-le-pow (w - 1) 2 (lit≤ tt))

top_small : (w x : ℕ) → 1 ≤ w → x < 2 ^ w → 2 * x % 2 ^ w ≡ 2 * (x % 2 ^ (w - 1))
top_small w x h inside =
    let t = bit_number (top_bit w x) in
    let scaled : t * (2 * 2 ^ (w - 1)) ≡ t * 2 ^ w = ap (λ k. t * k) (doubled w h) in
    let twice : 2 * x ≡ t * 2 ^ w + 2 * (x % 2 ^ (w - 1)) = omega (arith, top_first w x h inside, scaled) in
    ap (λ n. n % 2 ^ w) twice ∙ mod-mul-add t (2 ^ w) (2 * (x % 2 ^ (w - 1))) (omega (arith, rest_small w x, doubled w h))

half_of_even : (n : ℕ) (b : Bool) → (2 * n + bit_number b) / 2 ≡ n
half_of_even n true = omega arith
half_of_even n false = omega arith

last_of_even : (n : ℕ) (b : Bool) → bit (2 * n + bit_number b) 0 ≡ b
last_of_even n true = grind (arith, nat_tests)
last_of_even n false = grind (arith, nat_tests)

pub left_then_right : (w x : ℕ) (c d : Bool) → 1 ≤ w → x < 2 ^ w → (turned ops.right w (turned ops.left w x c).0 d).0 ≡ x
left_then_right w x c d h inside =
    rw (top_small w x h inside, half_of_even (x % 2 ^ (w - 1)) (top_bit w x), last_of_even (x % 2 ^ (w - 1)) (top_bit w x))
    (omega (arith, top_first w x h inside))

pub left_carry_then_right : (w x : ℕ) (c : Bool) → 1 ≤ w → x < 2 ^ w → turned ops.right_carry w (turned ops.left_carry w x c).0 (turned ops.left_carry w x c).1 ≡ (x, c)
left_carry_then_right w x c h inside =
    let whole : x % 2 ^ (w - 1) + bit_number (top_bit w x) * 2 ^ (w - 1) ≡ x = omega (arith, top_first w x h inside) in
    rw (top_small w x h inside, half_of_even (x % 2 ^ (w - 1)) c, last_of_even (x % 2 ^ (w - 1)) c, whole) refl
