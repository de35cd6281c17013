-- Patterns and the numbers that they mean.
use Rattle.std.proofs.Common.{◌≡◌, ℕ, suc, ◌+◌, ◌-◌, ◌*◌, ◌%◌, ◌^◌, ◌≤◌, ◌<◌, ℤ, pos, negsuc, Bool, true, false, refl, arith, ap, ◌∙◌, ◌-ℤ◌, nat_lt, lit≤}
use Rattle.std.proofs.lemmas.Bool.Decides.{nat_tests}
use Rattle.std.proofs.lemmas.Bool.{lt-ltb, le-ltb}
use Rattle.std.proofs.lemmas.Int.{ints}
use Rattle.std.proofs.Math.Nat.{pow-suc, mod-eq_of_lt, one-le-pow}
use Rattle.hp_model.specs.declared.Mode.{Mode}
use Rattle.hp_model.specs.declared.Mode.TheVariants.{Unsigned, Ones, Twos}
use Rattle.hp_model.specs.Words.{value, low, fits, is_negative_zero}

-- half of the patterns, twice
pub doubled : (w : ℕ) → 1 ≤ w → 2 * 2 ^ (w - 1) ≡ 2 ^ w
doubled w h = let e : w ≡ suc (w - 1) = omega arith in (omega (arith, pow-suc 2 (w - 1), ap (λ k. 2 ^ k) e))

less_greater : (a b : ℕ) → a < b → pos a -ℤ pos b ≡ negsuc (b - a - 1)
less_greater a b h = grind (arith, ints)

-- the pattern of a negative number that isn't below the range of the patterns
low_negative : (w : ℕ) (mode : Mode) (n : ℕ) → n + 1 < 2 ^ w → (low w Ones (negsuc n) ≡ 2 ^ w - 1 - (n + 1)) × (low w Twos (negsuc n) ≡ 2 ^ w - (n + 1))
low_negative w mode n h =
    let kept : suc n % 2 ^ w ≡ suc n = mod-eq_of_lt (omega arith) in
    let less : (2 ^ w - suc n) % 2 ^ w ≡ 2 ^ w - suc n = mod-eq_of_lt (omega arith) in
    (rw kept (omega arith), rw (kept, less) (omega arith))

pub low_of_value : (w : ℕ) (mode : Mode) (p : ℕ) → 1 ≤ w → p < 2 ^ w → is_negative_zero w mode p ≡ false → low w mode (value w mode p) ≡ p
low_of_value w Unsigned p h inside other = mod-eq_of_lt inside
low_of_value w Ones p h inside other = by_half (nat_lt p (2 ^ (w - 1))) refl
  where
    by_half : (t : Bool) → nat_lt p (2 ^ (w - 1)) ≡ t → low w Ones (value w Ones p) ≡ p
    by_half true e = rw e (mod-eq_of_lt inside)
    by_half false e =
        let small : p < 2 ^ w - 1 = grind (arith, nat_tests, other) in
        rw (e, less_greater p (2 ^ w - 1) small) ((low_negative w Ones (2 ^ w - 1 - p - 1) (omega arith)).0 ∙ omega arith)
low_of_value w Twos p h inside other = by_half (nat_lt p (2 ^ (w - 1))) refl
  where
    by_half : (t : Bool) → nat_lt p (2 ^ (w - 1)) ≡ t → low w Twos (value w Twos p) ≡ p
    by_half true e = rw e (mod-eq_of_lt inside)
    by_half false e =
        let above : 2 ^ (w - 1) ≤ p = grind (arith, nat_tests, e) in
        rw (e, less_greater p (2 ^ w) inside) ((low_negative w Twos (2 ^ w - p - 1) (omega (arith, doubled w h, one-le-pow (w - 1) 2 (lit≤ tt)))).1 ∙ omega arith)

pub value_of_low : (w : ℕ) (mode : Mode) (v : ℤ) → 1 ≤ w → fits w mode v ≡ true → value w mode (low w mode v) ≡ v
value_of_low w Unsigned (pos n) h inside =
    let below : n < 2 ^ w = grind (arith, nat_tests, ints, one-le-pow w 2 (lit≤ tt)) in
    rw (mod-eq_of_lt below) refl
value_of_low w Unsigned (negsuc n) h inside = grind (arith, nat_tests, ints)
value_of_low w Ones (pos n) h inside =
    let small : n < 2 ^ (w - 1) = grind (arith, nat_tests, ints, one-le-pow (w - 1) 2 (lit≤ tt)) in
    let kept : n % 2 ^ w ≡ n = mod-eq_of_lt (omega (arith, doubled w h)) in
    rw (kept, lt-ltb n (2 ^ (w - 1)) small) refl
value_of_low w Ones (negsuc n) h inside =
    let small : n + 1 < 2 ^ (w - 1) = grind (arith, nat_tests, ints, one-le-pow (w - 1) 2 (lit≤ tt)) in
    let high : nat_lt (2 ^ w - 1 - (n + 1)) (2 ^ (w - 1)) ≡ false = le-ltb _ _ (omega (arith, doubled w h)) in
    ap (λ p. value w Ones p) ((low_negative w Ones n (omega (arith, doubled w h))).0)
    ∙ rw (high, less_greater (2 ^ w - 1 - (n + 1)) (2 ^ w - 1) (omega (arith, doubled w h))) (ap negsuc (omega (arith, doubled w h)))
value_of_low w Twos (pos n) h inside =
    let small : n < 2 ^ (w - 1) = grind (arith, nat_tests, ints, one-le-pow (w - 1) 2 (lit≤ tt)) in
    let kept : n % 2 ^ w ≡ n = mod-eq_of_lt (omega (arith, doubled w h)) in
    rw (kept, lt-ltb n (2 ^ (w - 1)) small) refl
value_of_low w Twos (negsuc n) h inside =
    let small : n + 1 ≤ 2 ^ (w - 1) = grind (arith, nat_tests, ints, one-le-pow (w - 1) 2 (lit≤ tt)) in
    let room : 1 ≤ 2 ^ (w - 1) = one-le-pow (w - 1) 2 (lit≤ tt) in
    let high : nat_lt (2 ^ w - (n + 1)) (2 ^ (w - 1)) ≡ false = le-ltb _ _ (omega (arith, doubled w h)) in
    ap (λ p. value w Twos p) ((low_negative w Twos n (omega (arith, doubled w h))).1)
    ∙ rw (high, less_greater (2 ^ w - (n + 1)) (2 ^ w) (omega (arith, doubled w h))) (ap negsuc (omega (arith, doubled w h)))

pub negative_zero_value : (w : ℕ) → 1 ≤ w → value w Ones (2 ^ w - 1) ≡ pos 0
negative_zero_value w h = grind (arith, nat_tests, ints, doubled w h, one-le-pow (w - 1) 2)
