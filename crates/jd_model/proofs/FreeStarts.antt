-- The free bits of a start and the start of some bits are inverse.
use Rattle.std.proofs.Common.{◌≡◌, ℕ, zero, suc, ◌+◌, ◌^◌, ◌<◌, ◌≤◌, ◌==◌, Bool, true, false, List, [], ◌∷◌, ◌++◌, length, map, take, drop, replicate, Option, Some, None, refl, sym, ap, ◌∙◌, arith, get_or, nat_lt}
use Rattle.std.specs.Cmp.Derive.{both_true}
use Rattle.std.proofs.lemmas.Bool.{eqb-true, ltb-true, false≢true}
use Rattle.std.proofs.lemmas.Bool.Decides.{nat_tests}
use Rattle.hp_model.specs.WordOperations.{bit_number}
use Rattle.hp_model.specs.State.{Data}
use Rattle.jd_model.specs.Problems.{Problem, IsProblem, part_limit, is_fixed_below, are_fixed_from, Field, field, fields, nibble_count, numbers, start_with, in_range, are_in_fields, is_in_field, is_fixed_at, bits, bits_in, free_bits, numbers_in, start_of, AreBitsOfStarts}
use Rattle.jd_text.proofs.Tests.{left-part, right-part}
use Rattle.jd_model.proofs.FreeBits.{are_fixed_within, numbers-bits, fields-numbers, bits-numbers, length-bits_in}

-- ---- the flags as numbers and back

flag-back : (b : Bool) → (bit_number b == 1) ≡ b
flag-back true = refl
flag-back false = refl

flags-back : (flags : List Bool) (nibbles : List ℕ) → map (λ n. n == 1) (take (length flags) (map bit_number flags ++ nibbles)) ≡ flags
flags-back [] nibbles = refl
flags-back (b ∷ flags) nibbles =
    ap (λ c. c ∷ map (λ n. n == 1) (take (length flags) (map bit_number flags ++ nibbles))) (flag-back b)
    ∙ ap {B = List Bool} (λ r. b ∷ r) (flags-back flags nibbles)

-- the nibbles stand after the flags
nibbles-after-flags : (flags : List Bool) (nibbles : List ℕ) → drop (length flags) (map bit_number flags ++ nibbles) ≡ nibbles
nibbles-after-flags [] nibbles = refl
nibbles-after-flags (b ∷ flags) nibbles = nibbles-after-flags flags nibbles

-- the start of a start's numbers
pub start-numbers : (s : Data) → length s.flags ≡ 6 → start_with (numbers s) ≡ s
start-numbers s six =
    let all = map bit_number s.flags ++ s.nibbles in
    ap (λ n. record s { flags = map (λ n. n == 1) (take n all); nibbles = drop n all }) (sym six)
    ∙ ap (λ fs. record s { flags = fs; nibbles = drop (length s.flags) all }) (flags-back s.flags s.nibbles)
    ∙ ap (λ ns. record s { nibbles = ns }) (nibbles-after-flags s.flags s.nibbles)

-- what a start in range has
pub six-flags : (p : Problem) (s : Data) → in_range p s ≡ true → length s.flags ≡ 6
six-flags p s h = eqb-true (length s.flags) 6 (left-part (length s.flags == 6) (are_in_fields (fields p) (numbers s)) h)

pub numbers-in-fields : (p : Problem) (s : Data) → in_range p s ≡ true → are_in_fields (fields p) (numbers s) ≡ true
numbers-in-fields p s h = right-part (length s.flags == 6) (are_in_fields (fields p) (numbers s)) h

-- the start of the free bits of a start
start-bits : (p : Problem) (s : Data) → in_range p s ≡ true → start_of p (bits p s) ≡ s
start-bits p s h = ap start_with (numbers-bits (fields p) (numbers s) (numbers-in-fields p s h)) ∙ start-numbers s (six-flags p s h)

-- ---- the numbers of the start of some numbers

-- a number below two is the number of a bit
number-back : (n : ℕ) → n < 2 → bit_number (n == 1) ≡ n
number-back n h = grind (arith, nat_tests)

-- six of them
six-back : (a b c d e f : ℕ) (rest : List ℕ) → a < 2 → b < 2 → c < 2 → d < 2 → e < 2 → f < 2
    → bit_number (a == 1) ∷ bit_number (b == 1) ∷ bit_number (c == 1) ∷ bit_number (d == 1) ∷ bit_number (e == 1) ∷ bit_number (f == 1) ∷ rest
    ≡ a ∷ b ∷ c ∷ d ∷ e ∷ f ∷ rest
six-back a b c d e f rest ha hb hc hd he hf =
    rw (number-back a ha, number-back b hb, number-back c hc, number-back d hd, number-back e he, number-back f hf)

-- the numbers of the start of twelve and more numbers, where the flags are below two
pub numbers-back : (ns : List ℕ) → 12 ≤ length ns → get_or ns 6 0 < 2 → get_or ns 7 0 < 2 → get_or ns 8 0 < 2 → get_or ns 9 0 < 2
    → get_or ns 10 0 < 2 → get_or ns 11 0 < 2 → numbers (start_with ns) ≡ ns
numbers-back (a ∷ b ∷ c ∷ d ∷ e ∷ f ∷ g ∷ h ∷ i ∷ j ∷ k ∷ l ∷ rest) enough hg hh hi hj hk hl =
    ap {B = List ℕ} (λ r. a ∷ b ∷ c ∷ d ∷ e ∷ f ∷ r) (six-back g h i j k l rest hg hh hi hj hk hl)
numbers-back _ enough hg hh hi hj hk hl = absurd (omega (arith, enough))

-- number k is in field k
pub at-field : (fs : List Field) (ns : List ℕ) (k : ℕ) (f : Field) (n : ℕ) → are_in_fields fs ns ≡ true → k < length fs → is_in_field (get_or fs k f) (get_or ns k n) ≡ true
at-field [] ns k f n h inside = absurd (omega (arith, inside))
at-field (g ∷ fs) [] k f n h inside = absurd (false≢true h)
at-field (g ∷ fs) (m ∷ ns) zero f n h inside = left-part (is_in_field g m) (are_in_fields fs ns) h
at-field (g ∷ fs) (m ∷ ns) (suc k) f n h inside = at-field fs ns k f n (right-part (is_in_field g m) (are_in_fields fs ns) h) (omega (arith, inside))

-- a number in a field is within its width
pub in-width : (f : Field) (n : ℕ) → is_in_field f n ≡ true → n < 2 ^ f.width
in-width f n h = ltb-true n (2 ^ f.width) (left-part (nat_lt n (2 ^ f.width)) (is_fixed_at f.fixed n) h)

length-numbers_in : (fs : List Field) (bs : List Bool) → length (numbers_in fs bs) ≡ length fs
length-numbers_in [] bs = refl
length-numbers_in (f ∷ fs) bs = ap suc (length-numbers_in fs _)

-- the numbers of the start of some bits
numbers-start : (p : Problem) (bs : List Bool) → are_in_fields (fields p) (numbers_in (fields p) bs) ≡ true
    → numbers (start_of p bs) ≡ numbers_in (fields p) bs
numbers-start p bs h =
    let ns = numbers_in (fields p) bs in
    let enough : 12 ≤ length (fields p) = omega arith in
    numbers-back ns (omega (arith, length-numbers_in (fields p) bs, enough))
    (in-width (field p 1 6) _ (at-field (fields p) ns 6 (field p 1 6) 0 h (omega (arith, enough))))
    (in-width (field p 1 7) _ (at-field (fields p) ns 7 (field p 1 6) 0 h (omega (arith, enough))))
    (in-width (field p 1 8) _ (at-field (fields p) ns 8 (field p 1 6) 0 h (omega (arith, enough))))
    (in-width (field p 1 9) _ (at-field (fields p) ns 9 (field p 1 6) 0 h (omega (arith, enough))))
    (in-width (field p 1 10) _ (at-field (fields p) ns 10 (field p 1 6) 0 h (omega (arith, enough))))
    (in-width (field p 1 11) _ (at-field (fields p) ns 11 (field p 1 6) 0 h (omega (arith, enough))))

-- ---- a problem's fields

-- part i, where the list begins at part k
fixed-at : (size k j i : ℕ) (fs : List (Option ℕ)) → i ≡ k + j → are_fixed_from size k fs ≡ true → is_fixed_below (part_limit size i) (get_or fs j None) ≡ true
fixed-at size k j i [] at h = refl
fixed-at size k zero i (f ∷ fs) at h =
    let here : k ≡ i = omega (arith, at) in
    ap (λ n. is_fixed_below (part_limit size n) f) (sym here) ∙ left-part (is_fixed_below (part_limit size k) f) (are_fixed_from size (suc k) fs) h
fixed-at size k (suc j) i (f ∷ fs) at h =
    fixed-at size (suc k) j i fs (omega (arith, at)) (right-part (is_fixed_below (part_limit size k) f) (are_fixed_from size (suc k) fs) h)

-- the nibbles' fields
repeated-fixed : (count : ℕ) (fixed : Option ℕ) → is_fixed_below 1 fixed ≡ true → are_fixed_within (replicate count (record { width = 4; fixed = fixed })) ≡ true
repeated-fixed zero fixed h = refl
repeated-fixed (suc count) fixed h = both_true (wider fixed h) (repeated-fixed count fixed h)
  where
    wider : (fixed : Option ℕ) → is_fixed_below 1 fixed ≡ true → is_fixed_below 16 fixed ≡ true
    wider None h = refl
    wider (Some v) h = grind (arith, nat_tests)

-- a problem fixes its fields within their ranges
fields-fixed : (p : Problem) → IsProblem p → are_fixed_within (fields p) ≡ true
fields-fixed p is =
    both_true (part 0 refl) (both_true (part 1 refl) (both_true (part 2 refl) (both_true (part 3 refl) (both_true (part 4 refl) (both_true (part 5 refl)
    (both_true (part 6 refl) (both_true (part 7 refl) (both_true (part 8 refl) (both_true (part 9 refl) (both_true (part 10 refl) (both_true (part 11 refl)
    (repeated-fixed (nibble_count p) (get_or p.fixed 12 None) (part 12 refl)))))))))))))
  where
    part : (k : ℕ) → k ≡ 0 + k → is_fixed_below (part_limit p.size k) (get_or p.fixed k None) ≡ true
    part k at = fixed-at p.size 0 k k p.fixed at is.fixed_within

-- the numbers of some bits are in the fields of a problem
in-fields : (p : Problem) (bs : List Bool) → IsProblem p → length bs ≡ free_bits p → are_in_fields (fields p) (numbers_in (fields p) bs) ≡ true
in-fields p bs is count = fields-numbers (fields p) bs (fields-fixed p is) (omega (arith, count))

pub bits-of-starts : (p : Problem) → IsProblem p → AreBitsOfStarts p
bits-of-starts p is = record {
  count = λ s h. length-bits_in (fields p) (numbers s) (numbers-in-fields p s h);
  start = start-bits p;
  ranged = λ bs count. ap (are_in_fields (fields p)) (numbers-start p bs (in-fields p bs is count)) ∙ in-fields p bs is count;
  same_bits = λ bs count. ap (bits_in (fields p)) (numbers-start p bs (in-fields p bs is count)) ∙ bits-numbers (fields p) bs count;
}
