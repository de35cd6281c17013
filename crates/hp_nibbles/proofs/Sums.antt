-- Sums of digits to the base 16, and where registers end.
use Rattle.std.proofs.Common.{◌≡◌, ℕ, zero, suc, ◌+◌, ◌-◌, ◌*◌, ◌/◌, ◌%◌, ◌^◌, ◌<◌, ◌≤◌, List, get_or, arith, refl, sym, ap, lit≤, ◌∙◌}
use Rattle.std.proofs.lemmas.Nat.{pow-add, mod-pow-add, mod_low, mod_below, mul-le, pow_pos}
use Rattle.std.proofs.Math.Nat.{mul-le-mul_left, mul-div-le, pow-suc, add-mul-mod_self_left}
use Rattle.hp_model.specs.Lists.{tabulated}
use Rattle.hp_model.specs.State.{width}
use Rattle.hp_model.specs.Memory.{nibble_sum, register_value}
use Rattle.hp_model.proofs.Tabulated.{get-tabulated}
use Rattle.hp_nibbles.specs.Bytes.{nibble_at}

-- a register below the count ends within the register nibbles
pub register_fits : (n k r : ℕ) → r < n / k → k * r + k ≤ n
register_fits n k r h = omega (arith, mul-le-mul_left k h, mul-div-le n k)

-- powers of 16 are powers of 2
pub sixteen : (n : ℕ) → 16 ^ n ≡ 2 ^ (4 * n)
sixteen zero = refl
sixteen (suc n) =
    let next : 4 * suc n ≡ 4 * n + 4 = omega arith in
    rw (next, pow-suc 16 n, pow-add 2 (4 * n) 4, sixteen n) (omega arith)

pub of_bytes : (j : ℕ) → 2 ^ (8 * j) ≡ 16 ^ (2 * j)
of_bytes j = ap (λ (k : ℕ). 2 ^ k) (omega arith) ∙ sym (sixteen (2 * j))

-- sums of the same digits
pub same_sum : (f g : ℕ → ℕ) (n : ℕ) → ((j : ℕ) → j < n → f j ≡ g j) → nibble_sum f n ≡ nibble_sum g n
same_sum f g zero same = refl
same_sum f g (suc n) same =
    let here : f n ≡ g n = same n (omega arith) in
    let before : nibble_sum f n ≡ nibble_sum g n = same_sum f g n (λ j below. same j (omega arith)) in
    rw (here, before) refl

-- the lowest digit apart
pub first_digit : (f : ℕ → ℕ) (n : ℕ) → nibble_sum f (suc n) ≡ f 0 + 16 * nibble_sum (λ j. f (suc j)) n
first_digit f zero = omega arith
first_digit f (suc n) = ap (λ (k : ℕ). k + f (suc n) * 16 ^ suc n) (first_digit f n) ∙ rw (pow-suc 16 n) (spread (f 0) (nibble_sum (λ j. f (suc j)) n) (f (suc n)) (16 ^ n))
  where
    spread : (a b c power : ℕ) → a + 16 * b + c * (power * 16) ≡ a + 16 * (b + c * power)
    spread a b c power = grind arith

-- higher digits don't show below
pub lower_digits : (f : ℕ → ℕ) (n k : ℕ) → nibble_sum f (n + k) % 16 ^ n ≡ nibble_sum f n % 16 ^ n
lower_digits f n zero = ap (λ (m : ℕ). nibble_sum f m % 16 ^ n) (omega arith)
lower_digits f n (suc k) =
    let next : n + suc k ≡ suc (n + k) = omega arith in
    let power : f (n + k) * 16 ^ (n + k) ≡ 16 ^ n * (16 ^ k * f (n + k)) = ap (λ (p : ℕ). f (n + k) * p) (pow-add 16 n k) ∙ turned (f (n + k)) (16 ^ n) (16 ^ k) in
    ap (λ (m : ℕ). nibble_sum f m % 16 ^ n) next ∙ ap (λ (v : ℕ). (nibble_sum f (n + k) + v) % 16 ^ n) power
    ∙ add-mul-mod_self_left (nibble_sum f (n + k)) (16 ^ n) (16 ^ k * f (n + k)) ∙ lower_digits f n k
  where
    turned : (a b c : ℕ) → a * (b * c) ≡ b * (c * a)
    turned a b c = grind arith

-- two more digits of a byte
even_nibble : (bytes : List ℕ) (b : ℕ) → nibble_at bytes (2 * b) ≡ get_or bytes b 0 % 16
even_nibble bytes b =
    let place : 2 * b / 2 ≡ b = omega arith in
    let even : 2 * b % 2 ≡ 0 = omega arith in
    rw (place, even) refl

odd_nibble : (bytes : List ℕ) (b : ℕ) → nibble_at bytes (2 * b + 1) ≡ get_or bytes b 0 / 16
odd_nibble bytes b =
    let place : (2 * b + 1) / 2 ≡ b = omega arith in
    let odd : (2 * b + 1) % 2 ≡ 1 = omega arith in
    rw (place, odd) refl

pub byte_step : (bytes : List ℕ) (from j number byte : ℕ) → byte ≡ get_or bytes (from + j) 0
    → number ≡ nibble_sum (λ i. nibble_at bytes (2 * from + i)) (2 * j)
    → number + byte * 16 ^ (2 * j) ≡ nibble_sum (λ i. nibble_at bytes (2 * from + i)) (2 * (j + 1))
byte_step bytes from j number byte is so_far =
    let next : 2 * (j + 1) ≡ suc (suc (2 * j)) = omega arith in
    let low_place : 2 * from + 2 * j ≡ 2 * (from + j) = omega arith in
    let high_place : 2 * from + suc (2 * j) ≡ 2 * (from + j) + 1 = omega arith in
    let lower : nibble_at bytes (2 * from + 2 * j) ≡ byte % 16 = ap (nibble_at bytes) low_place ∙ even_nibble bytes (from + j) ∙ ap (λ (b : ℕ). b % 16) (sym is) in
    let upper : nibble_at bytes (2 * from + suc (2 * j)) ≡ byte / 16 = ap (nibble_at bytes) high_place ∙ odd_nibble bytes (from + j) ∙ ap (λ (b : ℕ). b / 16) (sym is) in
    let halves : byte ≡ byte % 16 + 16 * (byte / 16) = omega arith in
    ap (λ (b : ℕ). number + b * 16 ^ (2 * j)) halves ∙ spread number (byte % 16) (byte / 16) (16 ^ (2 * j))
    ∙ ap (λ (b : ℕ). number + byte % 16 * 16 ^ (2 * j) + byte / 16 * b) (sym (pow-suc 16 (2 * j)))
    ∙ ap (λ (b : ℕ). b + byte % 16 * 16 ^ (2 * j) + byte / 16 * 16 ^ suc (2 * j)) so_far
    ∙ ap (λ (b : ℕ). nibble_sum (λ i. nibble_at bytes (2 * from + i)) (2 * j) + b * 16 ^ (2 * j) + byte / 16 * 16 ^ suc (2 * j)) (sym lower)
    ∙ ap (λ (b : ℕ). nibble_sum (λ i. nibble_at bytes (2 * from + i)) (2 * j) + nibble_at bytes (2 * from + 2 * j) * 16 ^ (2 * j) + b * 16 ^ suc (2 * j)) (sym upper)
    ∙ ap (λ (m : ℕ). nibble_sum (λ i. nibble_at bytes (2 * from + i)) m) (sym next)
  where
    spread : (number lower upper power : ℕ) → number + (lower + 16 * upper) * power ≡ number + lower * power + upper * (power * 16)
    spread number lower upper power = grind arith

-- one more byte keeps a number below a power of 2
pub byte_small : (number byte j : ℕ) → number < 2 ^ (8 * j) → byte < 256 → number + byte * 2 ^ (8 * j) < 2 ^ (8 * (j + 1))
byte_small number byte j small byte_is =
    let next : 8 * (j + 1) ≡ 8 * j + 8 = omega arith in
    rw (next, pow-add 2 (8 * j) 8) (omega (arith, mul-le byte (2 ^ (8 * j)) 255 (2 ^ (8 * j)) (omega arith) (omega arith)))

shorter : (n w m : ℕ) → w ≤ m → n % 2 ^ m % 2 ^ w ≡ n % 2 ^ w
shorter n w m inside =
    let split : m ≡ (m - w) + w = omega arith in
    ap (λ (k : ℕ). n % 2 ^ k % 2 ^ w) split ∙ ap (λ (v : ℕ). v % 2 ^ w) (mod-pow-add n (m - w) w)
    ∙ mod_low (n / 2 ^ w % 2 ^ (m - w)) w (n % 2 ^ w) (mod_below n (2 ^ w) (pow_pos w))

-- the digits from a nibble on, read by whole bytes
pub window_is : (bytes : List ℕ) (first count number : ℕ)
    → number ≡ nibble_sum (λ i. nibble_at bytes (2 * (first / 2) + i)) (2 * ((first % 2 + count + 1) / 2))
    → number / 2 ^ (4 * (first % 2)) % 16 ^ count ≡ nibble_sum (λ i. nibble_at bytes (first + i)) count % 16 ^ count
window_is bytes first count number is = by_half (first % 2) refl (mod_below first 2 (lit≤ tt))
  where
    by_half : (half : ℕ) → first % 2 ≡ half → half < 2 → number / 2 ^ (4 * (first % 2)) % 16 ^ count ≡ nibble_sum (λ i. nibble_at bytes (first + i)) count % 16 ^ count
    by_half zero e few =
        let extra = 2 * ((count + 1) / 2) - count in
        let size : 2 * ((first % 2 + count + 1) / 2) ≡ count + extra = omega arith in
        let place : 2 * (first / 2) ≡ first = omega arith in
        let whole : number / 1 ≡ number = omega arith in
        let sum : number ≡ nibble_sum (λ i. nibble_at bytes (first + i)) (count + extra) =
        is ∙ ap (λ (k : ℕ). nibble_sum (λ i. nibble_at bytes (2 * (first / 2) + i)) k) size ∙ ap (λ (k : ℕ). nibble_sum (λ i. nibble_at bytes (k + i)) (count + extra)) place in
        rw (e, whole, sum) (lower_digits (λ i. nibble_at bytes (first + i)) count extra)
    by_half (suc zero) e few =
        let extra = 2 * ((count + 2) / 2) - 1 - count in
        let size : 2 * ((first % 2 + count + 1) / 2) ≡ suc (count + extra) = omega arith in
        let f = λ (i : ℕ). nibble_at bytes (2 * (first / 2) + i) in
        let even_place : 2 * (first / 2) + 0 ≡ 2 * (first / 2) = omega arith in
        let lowest : f 0 < 16 = rw (even_place, even_nibble bytes (first / 2)) (omega arith) in
        let rest : nibble_sum (λ i. f (suc i)) (count + extra) ≡ nibble_sum (λ i. nibble_at bytes (first + i)) (count + extra) =
        same_sum (λ i. f (suc i)) (λ i. nibble_at bytes (first + i)) (count + extra) (λ i below. ap (nibble_at bytes) (omega arith)) in
        let sum : number ≡ f 0 + 16 * nibble_sum (λ i. nibble_at bytes (first + i)) (count + extra) =
        is ∙ ap (nibble_sum f) size ∙ first_digit f (count + extra) ∙ ap (λ (v : ℕ). f 0 + 16 * v) rest in
        let above : number / 16 ≡ nibble_sum (λ i. nibble_at bytes (first + i)) (count + extra) = omega arith in
        rw (e, above) (lower_digits (λ i. nibble_at bytes (first + i)) count extra)
    by_half (suc (suc half)) e few = absurd (omega arith)

-- the bits below w of the digits are the register
pub register_is : (bytes : List ℕ) (w n r number : ℕ) → number % 16 ^ width w ≡ nibble_sum (λ i. nibble_at bytes (width w * r + i)) (width w) % 16 ^ width w
    → width w * r + width w ≤ n → number % 2 ^ w ≡ register_value w (tabulated (nibble_at bytes) n) r
register_is bytes w n r number is inside =
    let sum = nibble_sum (λ i. nibble_at bytes (width w * r + i)) (width w) in
    let wide : w ≤ 4 * width w = omega arith in
    sym (shorter number w (4 * width w) wide) ∙ ap (λ (p : ℕ). number % p % 2 ^ w) (sym (sixteen (width w))) ∙ ap (λ (v : ℕ). v % 2 ^ w) is
    ∙ ap (λ (p : ℕ). sum % p % 2 ^ w) (sixteen (width w)) ∙ shorter sum w (4 * width w) wide
    ∙ ap (λ (v : ℕ). v % 2 ^ w) (same_sum (λ i. nibble_at bytes (width w * r + i)) (λ i. get_or (tabulated (nibble_at bytes) n) (width w * r + i) 0) (width w)
    (λ i below. sym (get-tabulated (nibble_at bytes) n (width w * r + i) (omega arith))))
