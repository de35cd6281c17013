-- Whether sums, differences and negatives are in the range of the word, from top bits and carries.
use Rattle.std.proofs.Common.{◌≡◌, ℕ, suc, ◌+◌, ◌-◌, ◌*◌, ◌%◌, ◌^◌, ◌<◌, ◌≤◌, Bool, true, false, not, ◌&&◌, ◌==◌, nat_lt, nat_le, refl, sym, ap, ◌∙◌, arith}
use Rattle.std.specs.Prelude.{pos, ◌+ℤ◌, ◌-ℤ◌, neg_ℤ, int_le, if◌then◌else◌, Some}
use Rattle.std.proofs.lemmas.Bool.Decides.{nat_tests}
use Rattle.std.proofs.lemmas.Int.{ints}
use Rattle.std.proofs.lemmas.Nat.{mod_below}
use Rattle.std.proofs.Math.Nat.{pow-suc, one-le-pow, mod-eq_of_lt, add-mod_right}
use Rattle.hp_model.specs.declared.Mode.{Mode}
use Rattle.hp_model.specs.declared.Mode.TheVariants.{Unsigned, Ones, Twos}
use Rattle.hp_model.specs.Words.{value, fits}
use Rattle.hp_model.specs.WordOperations.{sum_pattern, difference_pattern, difference_of}
use Rattle.jd_circuit.specs.Meaning.{xor}
use Rattle.jd_rows.specs.Answers.{overflows, below, above, difference_out}
use Rattle.jd_vectors.specs.Number.{bit}

-- ---- a value as a difference of two numbers, and what fits

abbrev pub over : ℕ → Mode → ℕ → ℕ
over w Unsigned p = 0
over w Ones p = if nat_lt p (2 ^ (w - 1)) then 0 else 2 ^ w - 1
over w Twos p = if nat_lt p (2 ^ (w - 1)) then 0 else 2 ^ w

by_test : (b : Bool) (p m : ℕ) → (if b then pos p else pos p -ℤ pos m) ≡ pos p -ℤ pos (if b then 0 else m)
by_test true p m = omega (arith, ints)
by_test false p m = refl

pub value_as : (w : ℕ) (mode : Mode) (p : ℕ) → value w mode p ≡ pos p -ℤ pos (over w mode p)
value_as w Unsigned p = omega (arith, ints)
value_as w Ones p = by_test (nat_lt p (2 ^ (w - 1))) p (2 ^ w - 1)
value_as w Twos p = by_test (nat_lt p (2 ^ (w - 1))) p (2 ^ w)

-- a difference of two numbers lies between -lo and hi
between : (a b lo hi : ℕ) → (int_le (neg_ℤ (pos lo)) (pos a -ℤ pos b) && int_le (pos a -ℤ pos b) (pos hi)) ≡ (nat_le b (a + lo) && nat_le a (b + hi))
between a b lo hi = grind (arith, ints, nat_tests)

pub fits_as : (w : ℕ) (mode : Mode) (a b : ℕ) → fits w mode (pos a -ℤ pos b) ≡ (nat_le b (a + below w mode) && nat_le a (b + above w mode))
fits_as w Unsigned a b = between a b 0 (2 ^ w - 1)
fits_as w Ones a b = between a b (2 ^ (w - 1) - 1) (2 ^ (w - 1) - 1)
fits_as w Twos a b = between a b (2 ^ (w - 1)) (2 ^ (w - 1) - 1)

-- ---- sums, differences and negatives as comparisons of numbers, in all modes

plus : (a b c d : ℕ) → (pos a -ℤ pos b) +ℤ (pos c -ℤ pos d) ≡ pos (a + c) -ℤ pos (b + d)
plus a b c d = omega (arith, ints)

minus : (a b c d : ℕ) → (pos a -ℤ pos b) -ℤ (pos c -ℤ pos d) ≡ pos (a + d) -ℤ pos (b + c)
minus a b c d = omega (arith, ints)

opposite : (a b : ℕ) → neg_ℤ (pos a -ℤ pos b) ≡ pos b -ℤ pos a
opposite a b = omega (arith, ints)

pub fits_sum : (w : ℕ) (mode : Mode) (y x : ℕ) → fits w mode (value w mode y +ℤ value w mode x)
    ≡ (nat_le (over w mode y + over w mode x) (y + x + below w mode) && nat_le (y + x) (over w mode y + over w mode x + above w mode))
fits_sum w mode y x = rw (value_as w mode y, value_as w mode x, plus y (over w mode y) x (over w mode x)) (fits_as w mode _ _)

pub fits_difference : (w : ℕ) (mode : Mode) (y x : ℕ) → fits w mode (value w mode y -ℤ value w mode x)
    ≡ (nat_le (over w mode y + x) (y + over w mode x + below w mode) && nat_le (y + over w mode x) (over w mode y + x + above w mode))
fits_difference w mode y x = rw (value_as w mode y, value_as w mode x, minus y (over w mode y) x (over w mode x)) (fits_as w mode _ _)

pub fits_negative : (w : ℕ) (mode : Mode) (x : ℕ) → fits w mode (neg_ℤ (value w mode x))
    ≡ (nat_le x (over w mode x + below w mode) && nat_le (over w mode x) (x + above w mode))
fits_negative w mode x = rw (value_as w mode x, opposite x (over w mode x)) (fits_as w mode _ _)

-- ---- top bits and carries. H is 2 ^ (w - 1), M is 2 ^ w

range_twos : (H M y x r : ℕ) (k : Bool) → 1 ≤ H → M ≡ 2 * H → y < M → x < M → r < M → r + M * bit k ≡ y + x
    → not (nat_le ((if nat_lt y H then 0 else M) + (if nat_lt x H then 0 else M)) (y + x + H) && nat_le (y + x) ((if nat_lt y H then 0 else M) + (if nat_lt x H then 0 else M) + (H - 1)))
    ≡ overflows (nat_le H y) (nat_le H x) (nat_le H r)
range_twos H M y x r true h m hy hx hr e = grind (arith, nat_tests)
range_twos H M y x r false h m hy hx hr e = grind (arith, nat_tests)

range_ones : (H M y x r s : ℕ) (k n : Bool) → 1 ≤ H → M ≡ 2 * H → y < M → x < M → s < M → s + M * bit k ≡ y + x → r < M → r + M * bit n ≡ s + 0 + bit k
    → not (nat_le ((if nat_lt y H then 0 else M - 1) + (if nat_lt x H then 0 else M - 1)) (y + x + (H - 1)) && nat_le (y + x) ((if nat_lt y H then 0 else M - 1) + (if nat_lt x H then 0 else M - 1) + (H - 1)))
    ≡ overflows (nat_le H y) (nat_le H x) (nat_le H r)
range_ones H M y x r s true true h m hy hx hs e hr d = absurd (omega arith)
range_ones H M y x r s true false h m hy hx hs e hr d = grind (arith, nat_tests)
range_ones H M y x r s false true h m hy hx hs e hr d = absurd (omega arith)
range_ones H M y x r s false false h m hy hx hs e hr d = grind (arith, nat_tests)

carry_out : (M s t : ℕ) (k : Bool) → s < M → s + M * bit k ≡ t → nat_le M t ≡ k
carry_out M s t true h e = grind (arith, nat_tests)
carry_out M s t false h e = grind (arith, nat_tests)

range_unsigned : (M t : ℕ) → 1 ≤ M → not (nat_le 0 (t + 0) && nat_le t (0 + (M - 1))) ≡ nat_le M t
range_unsigned M t h = grind (arith, nat_tests)

pub low_part : (M s t : ℕ) (k : Bool) → s < M → s + M * bit k ≡ t → t % M ≡ s
low_part M s t true h e = let whole : t ≡ s + M = omega arith in rw (whole, add-mod_right s M) (mod-eq_of_lt h)
low_part M s t false h e = let whole : t ≡ s = omega arith in rw whole (mod-eq_of_lt h)

around : (M y x r s : ℕ) (k n : Bool) → y < M → x < M → s < M → s + M * bit k ≡ y + x → r < M → r + M * bit n ≡ s + 0 + bit k → (if nat_lt (y + x) M then y + x else y + x + 1 - M) ≡ r
around M y x r s true true hy hx hs e hr d = absurd (omega arith)
around M y x r s true false hy hx hs e hr d = grind (arith, nat_tests)
around M y x r s false true hy hx hs e hr d = absurd (omega arith)
around M y x r s false false hy hx hs e hr d = grind (arith, nat_tests)

-- ---- a sum's pattern, carry and range in the three modes

pub double_half : (w : ℕ) → 1 ≤ w → 2 ^ w ≡ 2 * 2 ^ (w - 1)
double_half w h = let e : w ≡ suc (w - 1) = omega arith in omega (arith, ap (λ k. 2 ^ k) e, pow-suc 2 (w - 1))

pub record SumIs (w : ℕ) (mode : Mode) (y x s : ℕ) (k o : Bool) : Type 0 where
  pub pattern : sum_pattern w mode y x ≡ s
  pub carry : nat_le (2 ^ w) (y + x) ≡ k
  pub range : not (fits w mode (value w mode y +ℤ value w mode x)) ≡ o

pub sum_unsigned : (w y x s : ℕ) (k : Bool) → s < 2 ^ w → s + 2 ^ w * bit k ≡ y + x → SumIs w Unsigned y x s k k
sum_unsigned w y x s k hs e = record {
  pattern = low_part (2 ^ w) s (y + x) k hs e;
  carry = carry_out (2 ^ w) s (y + x) k hs e;
  range = ap not (fits_sum w Unsigned y x) ∙ range_unsigned (2 ^ w) (y + x) (one-le-pow w 2 (omega arith)) ∙ carry_out (2 ^ w) s (y + x) k hs e;
}

pub sum_twos : (w y x s : ℕ) (k : Bool) → 1 ≤ w → y < 2 ^ w → x < 2 ^ w → s < 2 ^ w → s + 2 ^ w * bit k ≡ y + x
    → SumIs w Twos y x s k (overflows (nat_le (2 ^ (w - 1)) y) (nat_le (2 ^ (w - 1)) x) (nat_le (2 ^ (w - 1)) s))
sum_twos w y x s k h hy hx hs e = record {
  pattern = low_part (2 ^ w) s (y + x) k hs e;
  carry = carry_out (2 ^ w) s (y + x) k hs e;
  range = ap not (fits_sum w Twos y x) ∙ range_twos (2 ^ (w - 1)) (2 ^ w) y x s k (one-le-pow (w - 1) 2 (omega arith)) (double_half w h) hy hx hs e;
}

pub sum_ones : (w y x s r : ℕ) (k n : Bool) → 1 ≤ w → y < 2 ^ w → x < 2 ^ w → s < 2 ^ w → s + 2 ^ w * bit k ≡ y + x → r < 2 ^ w → r + 2 ^ w * bit n ≡ s + 0 + bit k
    → SumIs w Ones y x r k (overflows (nat_le (2 ^ (w - 1)) y) (nat_le (2 ^ (w - 1)) x) (nat_le (2 ^ (w - 1)) r))
sum_ones w y x s r k n h hy hx hs e hr d = record {
  pattern = around (2 ^ w) y x r s k n hy hx hs e hr d;
  carry = carry_out (2 ^ w) s (y + x) k hs e;
  range = ap not (fits_sum w Ones y x) ∙ range_ones (2 ^ (w - 1)) (2 ^ w) y x r s k n (one-le-pow (w - 1) 2 (omega arith)) (double_half w h) hy hx hs e hr d;
}

-- ---- the same for differences, negatives and absolute values (plain numbers; H is half of M)

pub range_minus_twos : (H M y x r : ℕ) (k : Bool) → 1 ≤ H → M ≡ 2 * H → y < M → x < M → r < M → r + x ≡ y + M * bit k
    → not (nat_le ((if nat_lt y H then 0 else M) + x) (y + (if nat_lt x H then 0 else M) + H) && nat_le (y + (if nat_lt x H then 0 else M)) ((if nat_lt y H then 0 else M) + x + (H - 1)))
    ≡ (xor (nat_le H y) (nat_le H x) && xor (nat_le H y) (nat_le H r))
range_minus_twos H M y x r true h m hy hx hr e = grind (arith, nat_tests)
range_minus_twos H M y x r false h m hy hx hr e = grind (arith, nat_tests)

pub range_minus_ones : (H M y x r : ℕ) (k : Bool) → 1 ≤ H → M ≡ 2 * H → y < M → x < M → r < M → r + x + bit k ≡ y + M * bit k
    → not (nat_le ((if nat_lt y H then 0 else M - 1) + x) (y + (if nat_lt x H then 0 else M - 1) + (H - 1)) && nat_le (y + (if nat_lt x H then 0 else M - 1)) ((if nat_lt y H then 0 else M - 1) + x + (H - 1)))
    ≡ (xor (nat_le H y) (nat_le H x) && xor (nat_le H y) (nat_le H r))
range_minus_ones H M y x r true h m hy hx hr e = grind (arith, nat_tests)
range_minus_ones H M y x r false h m hy hx hr e = grind (arith, nat_tests)

pub range_minus_unsigned : (M y x : ℕ) → 1 ≤ M → y < M → x < M → not (nat_le (0 + x) (y + 0 + 0) && nat_le (y + 0) (0 + x + (M - 1))) ≡ nat_lt y x
range_minus_unsigned M y x h hy hx = grind (arith, nat_tests)

pub range_negative_twos : (H M x r : ℕ) (k : Bool) → 1 ≤ H → M ≡ 2 * H → x < M → r < M → r + x ≡ M * bit k
    → not (nat_le x ((if nat_lt x H then 0 else M) + H) && nat_le (if nat_lt x H then 0 else M) (x + (H - 1))) ≡ (nat_le H x && nat_le H r)
range_negative_twos H M x r true h m hx hr e = grind (arith, nat_tests)
range_negative_twos H M x r false h m hx hr e = grind (arith, nat_tests)

pub range_negative_ones : (H M x : ℕ) → 1 ≤ H → M ≡ 2 * H → x < M
    → not (nat_le x ((if nat_lt x H then 0 else M - 1) + (H - 1)) && nat_le (if nat_lt x H then 0 else M - 1) (x + (H - 1))) ≡ false
range_negative_ones H M x h m hx = grind (arith, nat_tests)

pub range_negative_unsigned : (M x : ℕ) → 1 ≤ M → x < M → not (nat_le x (0 + 0) && nat_le 0 (x + (M - 1))) ≡ not (x == 0)
range_negative_unsigned M x h hx = grind (arith, nat_tests)

-- ---- differences

borrowed_twos : (M y x : ℕ) → y < M → x < M → (y + M - x) % M + x ≡ y + M * bit (nat_lt y x)
borrowed_twos M y x hy hx = by (nat_lt y x) refl
  where
    by : (t : Bool) → nat_lt y x ≡ t → (y + M - x) % M + x ≡ y + M * bit (nat_lt y x)
    by true e =
        let less : y < x = grind (arith, nat_tests, e) in
        let small : (y + M - x) % M ≡ y + M - x = mod-eq_of_lt (omega arith) in
        rw (e, small) (omega arith)
    by false e =
        let more : x ≤ y = grind (arith, nat_tests, e) in
        let whole : y + M - x ≡ y - x + M = omega arith in
        let small : (y - x) % M ≡ y - x = mod-eq_of_lt (omega arith) in
        rw (e, whole, add-mod_right (y - x) M, small) (omega arith)

borrowed_ones : (M y x : ℕ) → y < M → x < M → (if nat_lt y x then y + M - 1 - x else y - x) + x + bit (nat_lt y x) ≡ y + M * bit (nat_lt y x)
borrowed_ones M y x hy hx = by (nat_lt y x) refl
  where
    by : (t : Bool) → nat_lt y x ≡ t → (if nat_lt y x then y + M - 1 - x else y - x) + x + bit (nat_lt y x) ≡ y + M * bit (nat_lt y x)
    by true e = let less : y < x = grind (arith, nat_tests, e) in rw e (omega arith)
    by false e = let more : x ≤ y = grind (arith, nat_tests, e) in rw e (omega arith)

ones_small : (M y x : ℕ) → 1 ≤ M → y < M → x < M → (if nat_lt y x then y + M - 1 - x else y - x) < M
ones_small M y x h hy hx = grind (arith, nat_tests)

pub range_difference : (w : ℕ) (mode : Mode) (y x : ℕ) → 1 ≤ w → y < 2 ^ w → x < 2 ^ w
    → not (fits w mode (value w mode y -ℤ value w mode x)) ≡ difference_out w mode y x (difference_pattern w mode y x)
range_difference w Unsigned y x h hy hx = ap not (fits_difference w Unsigned y x) ∙ range_minus_unsigned (2 ^ w) y x (one-le-pow w 2 (omega arith)) hy hx
range_difference w Ones y x h hy hx =
    ap not (fits_difference w Ones y x)
    ∙ range_minus_ones (2 ^ (w - 1)) (2 ^ w) y x (difference_pattern w Ones y x) (nat_lt y x) (one-le-pow (w - 1) 2 (omega arith)) (double_half w h) hy hx
    (ones_small (2 ^ w) y x (one-le-pow w 2 (omega arith)) hy hx) (borrowed_ones (2 ^ w) y x hy hx)
range_difference w Twos y x h hy hx =
    ap not (fits_difference w Twos y x)
    ∙ range_minus_twos (2 ^ (w - 1)) (2 ^ w) y x (difference_pattern w Twos y x) (nat_lt y x) (one-le-pow (w - 1) 2 (omega arith)) (double_half w h) hy hx
    (mod_below (y + 2 ^ w - x) (2 ^ w) (one-le-pow w 2 (omega arith))) (borrowed_twos (2 ^ w) y x hy hx)

pub difference_answer : (w : ℕ) (mode : Mode) (y x p : ℕ) (k o : Bool) → 1 ≤ w → y < 2 ^ w → x < 2 ^ w
    → p ≡ difference_pattern w mode y x → k ≡ nat_lt y x → o ≡ difference_out w mode y x p
    → record { pattern = p; carry = Some k; range = Some o } ≡ difference_of w mode y x
difference_answer w mode y x p k o h hy hx ep ek eo =
    let r : not (fits w mode (value w mode y -ℤ value w mode x)) ≡ o = range_difference w mode y x h hy hx ∙ ap (difference_out w mode y x) (sym ep) ∙ sym eo in
    rw (r, ep, ek) refl
