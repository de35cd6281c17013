-- The free bits of numbers in fields, and the numbers of some bits.
use Rattle.std.proofs.Common.{◌≡◌, ℕ, zero, suc, ◌+◌, ◌*◌, ◌/◌, ◌%◌, ◌^◌, ◌<◌, ◌≤◌, ◌&&◌, ◌==◌, Bool, true, false, cond, eqb, List, [], ◌∷◌, ◌++◌, length, take, drop, Option, Some, None, refl, sym, ap, ◌∙◌, subst, arith, length-append, length-take, length-drop, lit≤, nat_lt}
use Rattle.std.specs.Cmp.Derive.{both_true}
use Rattle.std.proofs.Math.Nat.{pow-suc, mod-eq_of_lt, one-le-pow}
use Rattle.std.proofs.Math.Arith.{mod-mul}
use Rattle.std.proofs.Math.Seq.{take-append_seam, drop-append_seam}
use Rattle.std.proofs.lemmas.Bool.{eqb-true, ltb-true, false≢true}
use Rattle.std.proofs.lemmas.Bool.Decides.{nat_tests}
use Rattle.std.proofs.lemmas.List.{take-append-drop}
use Rattle.hp_model.specs.Words.{number_of_bits}
use Rattle.jd_model.specs.Problems.{Field, is_fixed_below, are_in_fields, is_in_field, bits_of, bits_in, free_width, free_widths, number_in_field, numbers_in}
use Rattle.jd_text.proofs.Tests.{left-part, right-part, test-less}

-- ---- one number

-- the number of a first bit and more bits
first_bit : (n : ℕ) (bs : List Bool) → number_of_bits (eqb (n % 2) 1 ∷ bs) ≡ n % 2 + 2 * number_of_bits bs
first_bit n bs = grind (arith, nat_tests)

-- the number of the lowest bits of a number
number-bits_of : (k n : ℕ) → number_of_bits (bits_of k n) ≡ n % 2 ^ k
number-bits_of zero n = omega arith
number-bits_of (suc k) n =
    first_bit n (bits_of k (n / 2))
    ∙ rw (number-bits_of k (n / 2), pow-suc 2 k) (omega (arith, mod-mul n {m = 2 ^ k} {c = 2} (one-le-pow k 2 (lit≤ tt)) (lit≤ tt)))

-- a number of so many bits is the number of its bits
number-below : (k n : ℕ) → n < 2 ^ k → number_of_bits (bits_of k n) ≡ n
number-below k n h = number-bits_of k n ∙ mod-eq_of_lt h

length-bits_of : (w n : ℕ) → length (bits_of w n) ≡ w
length-bits_of zero n = refl
length-bits_of (suc w) n = ap suc (length-bits_of w _)

-- the bits of the number of some bits
odd-bit : (b : Bool) (n : ℕ) → eqb ((cond b 1 0 + 2 * n) % 2) 1 ≡ b
odd-bit true n = grind (arith, nat_tests)
odd-bit false n = grind (arith, nat_tests)

half-bits : (b : Bool) (n : ℕ) → (cond b 1 0 + 2 * n) / 2 ≡ n
half-bits true n = omega arith
half-bits false n = omega arith

bits_of-number : (bs : List Bool) → bits_of (length bs) (number_of_bits bs) ≡ bs
bits_of-number [] = refl
bits_of-number (b ∷ bs) =
    ap (λ c. c ∷ bits_of (length bs) ((cond b 1 0 + 2 * number_of_bits bs) / 2)) (odd-bit b (number_of_bits bs))
    ∙ ap (λ n. b ∷ bits_of (length bs) n) (half-bits b (number_of_bits bs))
    ∙ ap {B = List Bool} (λ r. b ∷ r) (bits_of-number bs)

-- the number of some bits is below the power of two
number-small : (bs : List Bool) → number_of_bits bs < 2 ^ length bs
number-small [] = lit≤ tt
number-small (true ∷ bs) = omega (arith, number-small bs, pow-suc 2 (length bs))
number-small (false ∷ bs) = omega (arith, number-small bs, pow-suc 2 (length bs))

-- ---- fields

test-same : (n : ℕ) → (n == n) ≡ true
test-same n = grind (arith, nat_tests)

-- a number from its bits
number-of-field : (w : ℕ) (fixed : Option ℕ) (n : ℕ) (rest : List Bool) → is_in_field (record { width = w; fixed = fixed }) n ≡ true
    → number_in_field (record { width = w; fixed = fixed }) (bits_of (free_width (record { width = w; fixed = fixed })) n ++ rest) ≡ n
number-of-field w None n rest h =
    let front : take w (bits_of w n ++ rest) ≡ bits_of w n =
    ap (λ k. take k (bits_of w n ++ rest)) (sym (length-bits_of w n)) ∙ take-append_seam (bits_of w n) rest in
    ap number_of_bits front ∙ number-below w n (ltb-true n (2 ^ w) (left-part (nat_lt n (2 ^ w)) true h))
number-of-field w (Some v) n rest h = sym (eqb-true n v (right-part (nat_lt n (2 ^ w)) (n == v) h))

-- the bits after those of a number
drop-front : (w n : ℕ) (rest : List Bool) → drop w (bits_of w n ++ rest) ≡ rest
drop-front w n rest = ap (λ k. drop k (bits_of w n ++ rest)) (sym (length-bits_of w n)) ∙ drop-append_seam (bits_of w n) rest

-- the numbers of the free bits of numbers in fields
pub numbers-bits : (fs : List Field) (ns : List ℕ) → are_in_fields fs ns ≡ true → numbers_in fs (bits_in fs ns) ≡ ns
numbers-bits [] [] h = refl
numbers-bits [] (n ∷ ns) h = absurd (false≢true h)
numbers-bits (f ∷ fs) [] h = absurd (false≢true h)
numbers-bits (f ∷ fs) (n ∷ ns) h =
    let all = bits_of (free_width f) n ++ bits_in fs ns in
    ap (λ m. m ∷ numbers_in fs (drop (free_width f) all)) (number-of-field f.width f.fixed n (bits_in fs ns) (left-part (is_in_field f n) (are_in_fields fs ns) h))
    ∙ ap (λ r. n ∷ numbers_in fs r) (drop-front (free_width f) n (bits_in fs ns))
    ∙ ap {B = List ℕ} (λ r. n ∷ r) (numbers-bits fs ns (right-part (is_in_field f n) (are_in_fields fs ns) h))

-- whether each field's fixed number is in its range
abbrev pub is_fixed_within : Field → Bool
is_fixed_within f = is_fixed_below (2 ^ f.width) f.fixed

abbrev pub are_fixed_within : List Field → Bool
are_fixed_within [] = true
are_fixed_within (f ∷ fs) = is_fixed_within f && are_fixed_within fs

-- a field's number of some bits is in the field
in-field : (w : ℕ) (fixed : Option ℕ) (bs : List Bool) → is_fixed_below (2 ^ w) fixed ≡ true → free_width (record { width = w; fixed = fixed }) ≤ length bs
    → is_in_field (record { width = w; fixed = fixed }) (number_in_field (record { width = w; fixed = fixed }) bs) ≡ true
in-field w None bs h enough =
    let size : length (take w bs) ≡ w = omega (arith, length-take w bs) in
    both_true (test-less (number_of_bits (take w bs)) (2 ^ w) (subst (λ k. number_of_bits (take w bs) < 2 ^ k) size (number-small (take w bs)))) refl
in-field w (Some v) bs h enough = both_true h (test-same v)

-- the free bits of a field's number
field-bits : (w : ℕ) (fixed : Option ℕ) (bs : List Bool) → free_width (record { width = w; fixed = fixed }) ≤ length bs
    → bits_of (free_width (record { width = w; fixed = fixed })) (number_in_field (record { width = w; fixed = fixed }) bs) ≡ take (free_width (record { width = w; fixed = fixed })) bs
field-bits w None bs enough =
    let size : length (take w bs) ≡ w = omega (arith, length-take w bs) in
    ap (λ k. bits_of k (number_of_bits (take w bs))) (sym size) ∙ bits_of-number (take w bs)
field-bits w (Some v) bs enough = refl

-- the numbers of some bits are in the fields
pub fields-numbers : (fs : List Field) (bs : List Bool) → are_fixed_within fs ≡ true → free_widths fs ≤ length bs → are_in_fields fs (numbers_in fs bs) ≡ true
fields-numbers [] bs h enough = refl
fields-numbers (f ∷ fs) bs h enough =
    both_true (in-field f.width f.fixed bs (left-part (is_fixed_within f) (are_fixed_within fs) h) (omega arith))
    (fields-numbers fs (drop (free_width f) bs) (right-part (is_fixed_within f) (are_fixed_within fs) h) (omega (arith, length-drop (free_width f) bs)))

-- the free bits of the numbers of some bits
pub bits-numbers : (fs : List Field) (bs : List Bool) → length bs ≡ free_widths fs → bits_in fs (numbers_in fs bs) ≡ bs
bits-numbers [] [] e = refl
bits-numbers [] (b ∷ bs) e = absurd (omega (arith, e))
bits-numbers (f ∷ fs) bs e =
    let rest = drop (free_width f) bs in
    ap (λ r. r ++ bits_in fs (numbers_in fs rest)) (field-bits f.width f.fixed bs (omega arith))
    ∙ ap (λ r. take (free_width f) bs ++ r) (bits-numbers fs rest (omega (arith, length-drop (free_width f) bs)))
    ∙ take-append-drop (free_width f) bs

-- how many bits are free
pub length-bits_in : (fs : List Field) (ns : List ℕ) → are_in_fields fs ns ≡ true → length (bits_in fs ns) ≡ free_widths fs
length-bits_in [] ns h = refl
length-bits_in (f ∷ fs) [] h = absurd (false≢true h)
length-bits_in (f ∷ fs) (n ∷ ns) h =
    length-append (bits_of (free_width f) n) (bits_in fs ns)
    ∙ ap (λ k. k + length (bits_in fs ns)) (length-bits_of (free_width f) n)
    ∙ ap (λ k. free_width f + k) (length-bits_in fs ns (right-part (is_in_field f n) (are_in_fields fs ns) h))
