-- Places round the end of a number: n steps of one place are one step of n places.
use Rattle.std.proofs.Common.{◌≡◌, ℕ, suc, ◌+◌, ◌-◌, ◌*◌, ◌/◌, ◌%◌, ◌^◌, ◌<◌, ◌≤◌, bit_and, arith, refl, sym, ap, ◌∙◌, subst}
use Rattle.std.proofs.Math.Nat.{pow-suc, mod-eq_of_lt, div-eq_of_lt}
use Rattle.std.proofs.lemmas.Nat.{pow-add, shr-shr, shr_split, mod-pow-add, mul-add-lt, shr_high, mod_low, shr_below, mod_below, pow_pos, one_shl, shl_whole, and_mask}
use Rattle.hp_bits.specs.Places.{moved_round}

-- a number stays one of so many bits
pub round_small : (bits n number : ℕ) → n ≤ bits → number < 2 ^ bits → moved_round bits n number < 2 ^ bits
round_small bits n number inside small =
    let low = bits - n in
    let lower : number % 2 ^ low < 2 ^ low = mod_below number (2 ^ low) (pow_pos low) in
    let upper : number / 2 ^ low < 2 ^ n = shr_below number n low (subst (λ (k : ℕ). number < 2 ^ k) (omega arith) small) in
    let power : 2 ^ bits ≡ 2 ^ n * 2 ^ low = ap (λ (k : ℕ). 2 ^ k) (omega arith) ∙ pow-add 2 n low in
    rw power (mul-add-lt (number % 2 ^ low) (2 ^ n) (number / 2 ^ low) (2 ^ low) lower upper)

-- no place is no step
pub round_none : (bits number : ℕ) → number < 2 ^ bits → moved_round bits 0 number ≡ number
round_none bits number small =
    let lower : number % 2 ^ bits ≡ number = mod-eq_of_lt small in
    let upper : number / 2 ^ bits ≡ 0 = div-eq_of_lt small in
    let place : bits - 0 ≡ bits = omega arith in
    rw (place, lower, upper) (omega arith)

spread : (q a power p : ℕ) → (2 * q + a) * power + p ≡ q * (2 * power) + (a * power + p)
spread q a power p = grind arith

spread_low : (p q a power : ℕ) → (p * power + q) * 2 + a ≡ p * (2 * power) + (2 * q + a)
spread_low p q a power = grind arith

spread_high : (a high low p q : ℕ) → a * (high * low) + (p * low + q) ≡ (a * high + p) * low + q
spread_high a high low p q = grind arith

twice : (k : ℕ) → 2 ^ suc k ≡ 2 * 2 ^ k
twice k = omega (arith, pow-suc 2 k)

at_most_one : (v k : ℕ) → v < 2 ^ suc k → v / 2 ^ k < 2
at_most_one v k small = shr_below v 1 k (subst (λ (i : ℕ). v < 2 ^ i) (omega arith) small)

-- n places to the left after one
first_left : (j n v : ℕ) → moved_round (j + suc n) 1 v ≡ v / 2 ^ j % 2 ^ n * 2 ^ suc j + (2 * (v % 2 ^ j) + v / 2 ^ j / 2 ^ n)
first_left j n v =
    let place : j + suc n - 1 ≡ n + j = omega arith in
    let upper : v / 2 ^ (n + j) ≡ v / 2 ^ j / 2 ^ n = ap (λ (k : ℕ). v / 2 ^ k) (omega arith) ∙ sym (shr-shr v j n) in
    rw (place, upper, mod-pow-add v n j, twice j) (spread_low (v / 2 ^ j % 2 ^ n) (v % 2 ^ j) (v / 2 ^ j / 2 ^ n) (2 ^ j))

pub step_left : (j n v : ℕ) → v < 2 ^ (j + suc n) → moved_round (j + suc n) n (moved_round (j + suc n) 1 v) ≡ moved_round (j + suc n) (suc n) v
step_left j n v small =
    let inner : j + suc n - n ≡ suc j = omega arith in
    let outer : j + suc n - suc n ≡ j = omega arith in
    let above : v / 2 ^ j < 2 ^ suc n = shr_below v (suc n) j (subst (λ (i : ℕ). v < 2 ^ i) (omega arith) small) in
    let a = v / 2 ^ j / 2 ^ n in
    let p = v / 2 ^ j % 2 ^ n in
    let q = v % 2 ^ j in
    let bit : a < 2 = at_most_one (v / 2 ^ j) n above in
    let rest : q < 2 ^ j = mod_below v (2 ^ j) (pow_pos j) in
    let low : 2 * q + a < 2 ^ suc j = omega (arith, twice j) in
    let upper : v / 2 ^ j ≡ a * 2 ^ n + p = sym (shr_split (v / 2 ^ j) n) in
    let whole : v % 2 ^ j * 2 ^ suc n + v / 2 ^ j ≡ q * (2 * 2 ^ n) + (a * 2 ^ n + p) = ap (λ (k : ℕ). q * k + v / 2 ^ j) (twice n) ∙ ap (λ (k : ℕ). q * (2 * 2 ^ n) + k) upper in
    rw (first_left j n v, inner, outer, mod_low p (suc j) (2 * q + a) low, shr_high p (suc j) (2 * q + a) low) (spread q a (2 ^ n) p ∙ sym whole)

-- n places to the right after one
abbrev pub moved_right : ℕ → ℕ → ℕ → ℕ
moved_right bits n v = v % 2 ^ n * 2 ^ (bits - n) + v / 2 ^ n

pub right_is : (bits n v : ℕ) → n ≤ bits → moved_round bits (bits - n) v ≡ moved_right bits n v
right_is bits n v inside = let place : bits - (bits - n) ≡ n = omega arith in rw place refl

first_right : (j n v : ℕ) → moved_right (j + suc n) 1 v ≡ (v % 2 * 2 ^ j + v / 2 / 2 ^ n) * 2 ^ n + v / 2 % 2 ^ n
first_right j n v =
    let place : j + suc n - 1 ≡ j + n = omega arith in
    let halves : v / 2 ≡ v / 2 / 2 ^ n * 2 ^ n + v / 2 % 2 ^ n = sym (shr_split (v / 2) n) in
    rw place (ap (λ (k : ℕ). v % 2 * k + v / 2) (pow-add 2 j n) ∙ ap (λ (k : ℕ). v % 2 * (2 ^ j * 2 ^ n) + k) halves
    ∙ spread_high (v % 2) (2 ^ j) (2 ^ n) (v / 2 / 2 ^ n) (v / 2 % 2 ^ n))

pub step_right : (j n v : ℕ) → moved_right (j + suc n) n (moved_right (j + suc n) 1 v) ≡ moved_right (j + suc n) (suc n) v
step_right j n v =
    let inner : j + suc n - n ≡ suc j = omega arith in
    let outer : j + suc n - suc n ≡ j = omega arith in
    let a = v % 2 in
    let p = v / 2 / 2 ^ n in
    let q = v / 2 % 2 ^ n in
    let rest : q < 2 ^ n = mod_below (v / 2) (2 ^ n) (pow_pos n) in
    let lower : v % 2 ^ suc n ≡ q * 2 + a = ap (λ (k : ℕ). v % 2 ^ k) (omega arith) ∙ mod-pow-add v n 1 in
    let upper : v / 2 ^ suc n ≡ p = ap (λ (k : ℕ). v / 2 ^ k) (omega arith) ∙ sym (shr-shr v 1 n) in
    let whole : v % 2 ^ suc n * 2 ^ j + v / 2 ^ suc n ≡ (2 * q + a) * 2 ^ j + p = ap (λ (k : ℕ). k * 2 ^ j + v / 2 ^ suc n) (lower ∙ omega arith) ∙ ap (λ (k : ℕ). (2 * q + a) * 2 ^ j + k) upper in
    rw (first_right j n v, inner, outer, mod_low (a * 2 ^ j + p) n q rest, shr_high (a * 2 ^ j + p) n q rest)
    (ap (λ (k : ℕ). q * k + (a * 2 ^ j + p)) (twice j) ∙ sym (spread q a (2 ^ j) p) ∙ sym whole)

-- the step by shifts and a mask of 128 bits
pub by_shifts : (number bits n : ℕ) → bits ≤ 65 → n ≤ bits →
    bit_and number (1 * 2 ^ (bits - n) % 2 ^ 128 - 1) * 2 ^ n % 2 ^ 128 + number / 2 ^ (bits - n) ≡ moved_round bits n number
by_shifts number bits n few inside =
    let one : 1 * 2 ^ (bits - n) % 2 ^ 128 ≡ 2 ^ (bits - n) = one_shl (bits - n) 128 (omega arith) in
    let lower : number % 2 ^ (bits - n) < 2 ^ (bits - n) = mod_below number (2 ^ (bits - n)) (pow_pos (bits - n)) in
    let whole : number % 2 ^ (bits - n) * 2 ^ n % 2 ^ 128 ≡ number % 2 ^ (bits - n) * 2 ^ n = shl_whole (number % 2 ^ (bits - n)) (bits - n) n 128 lower (omega arith) in
    rw (one, and_mask number (bits - n), whole) refl
