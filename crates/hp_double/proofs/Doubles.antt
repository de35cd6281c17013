-- Two words as one of twice the size.
use Rattle.std.proofs.Common.{◌≡◌, ◌≢◌, ℕ, zero, suc, ◌+◌, ◌-◌, ◌*◌, ◌/◌, ◌%◌, ◌^◌, ◌<◌, ◌≤◌, true, false, nat_lt, pos, neg_ℤ, refl, sym, ap, ap₂, ◌∙◌, arith}
use Rattle.std.proofs.lemmas.Nat.{pow-add, mul-le, pow_pos, div-mul-add, mod-mul-add, shr_split}
use Rattle.std.proofs.lemmas.Int.{ints}
use Rattle.std.proofs.lemmas.Bool.{lt-ltb, le-ltb}
use Rattle.std.proofs.Math.Nat.{div-lt_iff_lt-mul, mod-lt, mod-eq_of_lt}
use Rattle.hp_model.specs.declared.Mode.{Mode}
use Rattle.hp_model.specs.declared.Mode.TheVariants.{Unsigned, Ones, Twos}
use Rattle.hp_model.specs.Words.{low}
use Rattle.hp_model.specs.WordOperations.{double_value}
use Rattle.hp_double.specs.Number.{two_words}

square : (w : ℕ) → 2 ^ (2 * w) ≡ 2 ^ w * 2 ^ w
square w = (let e : 2 * w ≡ w + w = omega arith in ap (λ k. 2 ^ k) e) ∙ pow-add 2 w w

half_square : (w : ℕ) → 1 ≤ w → 2 ^ (2 * w - 1) ≡ 2 ^ (w - 1) * 2 ^ w
half_square w h = (let e : 2 * w - 1 ≡ w - 1 + w = omega arith in ap (λ k. 2 ^ k) e) ∙ pow-add 2 (w - 1) w

is_low : (w u v : ℕ) → 1 ≤ w → v < 2 ^ w → u < 2 ^ (w - 1) → nat_lt (u * 2 ^ w + v) (2 ^ (2 * w - 1)) ≡ true
is_low w u v h hv hu =
    let next : u + 1 ≤ 2 ^ (w - 1) = omega arith in
    lt-ltb _ _ (omega (arith, half_square w h, mul-le (u + 1) (2 ^ w) (2 ^ (w - 1)) (2 ^ w) next (omega arith)))

is_high : (w u v : ℕ) → 1 ≤ w → 2 ^ (w - 1) ≤ u → nat_lt (u * 2 ^ w + v) (2 ^ (2 * w - 1)) ≡ false
is_high w u v h hu = le-ltb _ _ (omega (arith, half_square w h, mul-le (2 ^ (w - 1)) (2 ^ w) u (2 ^ w) hu (omega arith)))

-- the value of a double word whose sign bit is clear
pub low_value : (w : ℕ) (mode : Mode) (u v : ℕ) → 1 ≤ w → v < 2 ^ w → u < 2 ^ (w - 1) → pos (u * 2 ^ w + v) ≡ double_value w mode u v
low_value w Unsigned u v h hv hu = refl
low_value w Ones u v h hv hu = rw (is_low w u v h hv hu) refl
low_value w Twos u v h hv hu = rw (is_low w u v h hv hu) refl

-- what is left of the greatest double word is left of each of its words
complement : (P u v : ℕ) → u < P → v < P → (P - 1 - u) * P + (P - 1 - v) + u * P + v + 1 ≡ P * P
complement P u v hu hv =
    let whole : P - 1 - u + u + 1 ≡ P = omega arith in
    let spread : (P - 1 - u) * P + u * P + P ≡ P * P = omega (arith, ap (λ k. k * P) whole) in
    omega (arith, spread)

-- the value of a double word whose sign bit is set
pub high_ones : (w u v : ℕ) → 1 ≤ w → u < 2 ^ w → v < 2 ^ w → 2 ^ (w - 1) ≤ u → neg_ℤ (pos ((2 ^ w - 1 - u) * 2 ^ w + (2 ^ w - 1 - v))) ≡ double_value w Ones u v
high_ones w u v h hu hv top = rw (is_high w u v h top) (omega (arith, ints, square w, complement (2 ^ w) u v hu hv))

pub high_twos : (w u v : ℕ) → 1 ≤ w → u < 2 ^ w → v < 2 ^ w → 2 ^ (w - 1) ≤ u → neg_ℤ (pos ((2 ^ w - 1 - u) * 2 ^ w + (2 ^ w - 1 - v) + 1)) ≡ double_value w Twos u v
high_twos w u v h hu hv top = rw (is_high w u v h top) (omega (arith, ints, square w, complement (2 ^ w) u v hu hv))

two_words_of : (w a b : ℕ) → b < 2 ^ w → two_words w (a * 2 ^ w + b) ≡ (a, b)
two_words_of w a b h = ap₂ (λ (x y : ℕ). (x, y)) (div-mul-add a (2 ^ w) b h) (mod-mul-add a (2 ^ w) b h)

-- the words of what is left of the greatest double word
complement_words : (w n : ℕ) → n < 2 ^ w * 2 ^ w → two_words w (2 ^ w * 2 ^ w - 1 - n) ≡ (2 ^ w - 1 - n / 2 ^ w, 2 ^ w - 1 - n % 2 ^ w)
complement_words w n h =
    let upper : n / 2 ^ w < 2 ^ w = (div-lt_iff_lt-mul (pow_pos w)).1 h in
    let lower : n % 2 ^ w < 2 ^ w = mod-lt n (pow_pos w) in
    let parts : 2 ^ w * 2 ^ w - 1 - n ≡ (2 ^ w - 1 - n / 2 ^ w) * 2 ^ w + (2 ^ w - 1 - n % 2 ^ w) = omega (arith, complement (2 ^ w) (n / 2 ^ w) (n % 2 ^ w) upper lower, shr_split n w) in
    ap (two_words w) parts ∙ two_words_of w (2 ^ w - 1 - n / 2 ^ w) (2 ^ w - 1 - n % 2 ^ w) (omega arith)

pub complemented : (w n p : ℕ) (words : ℕ × ℕ) → words ≡ two_words w n → n < 2 ^ w * 2 ^ w → p ≡ 2 ^ w * 2 ^ w - 1 - n → (2 ^ w - 1 - words.0, 2 ^ w - 1 - words.1) ≡ two_words w p
complemented w n p words parted h whole =
    ap (λ (t : ℕ × ℕ). (2 ^ w - 1 - t.0, 2 ^ w - 1 - t.1)) parted ∙ (sym (complement_words w n h) ∙ ap (two_words w) (sym whole))

-- the double pattern of a number
pub low_plain : (w : ℕ) (mode : Mode) (n : ℕ) → n < 2 ^ w * 2 ^ w → low (2 * w) mode (pos n) ≡ n
low_plain w mode n h = rw (square w) (mod-eq_of_lt h)

pub low_ones : (w n : ℕ) → n ≢ 0 → n < 2 ^ w * 2 ^ w → low (2 * w) Ones (neg_ℤ (pos n)) ≡ 2 ^ w * 2 ^ w - 1 - n
low_ones w zero some h = absurd (some refl)
low_ones w (suc n) some h = rw (square w, mod-eq_of_lt h) refl

low_other : (w n : ℕ) → suc n < 2 ^ w * 2 ^ w → (2 ^ (2 * w) - suc n % 2 ^ (2 * w)) % 2 ^ (2 * w) ≡ 2 ^ w * 2 ^ w - 1 - (suc n - 1)
low_other w n h =
    let below : 2 ^ w * 2 ^ w - suc n < 2 ^ w * 2 ^ w = omega arith in
    let same : 2 ^ w * 2 ^ w - suc n ≡ 2 ^ w * 2 ^ w - 1 - (suc n - 1) = omega arith in
    rw (square w, mod-eq_of_lt h) (mod-eq_of_lt below ∙ same)

pub low_others : (w : ℕ) (mode : Mode) (n : ℕ) → mode ≢ Ones → n ≢ 0 → n < 2 ^ w * 2 ^ w → low (2 * w) mode (neg_ℤ (pos n)) ≡ 2 ^ w * 2 ^ w - 1 - (n - 1)
low_others w mode zero other some h = absurd (some refl)
low_others w Unsigned (suc n) other some h = low_other w n h
low_others w Ones (suc n) other some h = absurd (other refl)
low_others w Twos (suc n) other some h = low_other w n h
