-- Digits of some bits, by shifts.
use Rattle.std.proofs.Common.{◌≡◌, ℕ, zero, suc, ◌+◌, ◌-◌, ◌*◌, ◌/◌, ◌%◌, ◌^◌, ◌<◌, ◌≤◌, List, ◌++◌, arith, sym, ap, ◌∙◌, lit≤, bit_and, append_assoc}
use Rattle.std.proofs.Math.Nat.{pow-suc, pow-zero, pow-le-pow_right, one-le-pow, div-eq_of_lt, mod-lt}
use Rattle.std.proofs.lemmas.Nat.{and_mask, pow-add}
use Rattle.hp_model.specs.Display.{place_text, places_text}

pub power_of_power : (w k : ℕ) → (2 ^ w) ^ k ≡ 2 ^ (w * k)
power_of_power w zero = let none : w * 0 ≡ 0 = omega arith in pow-zero (2 ^ w) ∙ ap (λ e. 2 ^ e) (sym none)
power_of_power w (suc k) =
    let next : w * k + w ≡ w * suc k = omega arith in
    rw (pow-suc (2 ^ w) k, power_of_power w k) (sym (pow-add 2 (w * k) w) ∙ ap (λ e. 2 ^ e) next)

pub shifted_out : (n s : ℕ) → n < 2 ^ 64 → 64 ≤ s → n / 2 ^ s ≡ 0
shifted_out n s small far =
    let bound : 2 ^ 64 ≤ 2 ^ s = pow-le-pow_right {n = 2} (lit≤ tt) far in
    let below : n < 2 ^ s = omega arith in
    div-eq_of_lt below

pub power_small : (w : ℕ) → w ≤ 4 → 2 ^ w ≤ 16
power_small w h = pow-le-pow_right {n = 2} (lit≤ tt) h

pub low_mask : (r w : ℕ) → w ≤ 4 → bit_and r (1 * 2 ^ w % 18446744073709551616 - 1) ≡ r % 2 ^ w
low_mask r w h =
    let small = power_small w h in
    let same : 1 * 2 ^ w % 18446744073709551616 ≡ 2 ^ w = omega arith in
    rw same (and_mask r w)

pub digit_small : (r w : ℕ) → w ≤ 4 → r % 2 ^ w < 16
digit_small r w h =
    let small = power_small w h in
    let some : 0 < 2 ^ w = one-le-pow w 2 (lit≤ tt) in
    omega (arith, mod-lt r some)

-- one more of the eight places
pub places_step : (base filled n first j : ℕ) (text next whole : List ℕ) → j < 8 → text ++ places_text base filled n first (8 - j) ≡ whole
    → next ≡ text ++ place_text base filled n (first + (7 - j)) → next ++ places_text base filled n first (8 - (j + 1)) ≡ whole
places_step base filled n first j text next whole inside before next_is =
    let here : 8 - j ≡ suc (7 - j) = omega arith in
    let there : 8 - (j + 1) ≡ 7 - j = omega arith in
    rw (next_is, there) (append_assoc text (place_text base filled n (first + (7 - j))) (places_text base filled n first (7 - j)) ∙ (rw here at before))
