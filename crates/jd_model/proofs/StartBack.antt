-- A start's text reads back as the start.
use Rattle.std.proofs.Common.{◌≡◌, ℕ, zero, suc, ◌+◌, ◌-◌, ◌^◌, ◌<◌, ◌≤◌, ◌==◌, ◌&&◌, ◌||◌, not, Bool, true, false, cond, List, [], ◌∷◌, ◌++◌, length, map, take, drop, replicate, Option, Some, None, refl, ap, ◌∙◌, arith, append-nil, get_or, nat_lt, lit≤}
use Rattle.std.specs.Prelude.{Ok, Err, Result, codes, slice_index_or}
use Rattle.std.specs.Cmp.Derive.{both_true}
use Rattle.std.specs.Fmt.{digit_glyph}
use Rattle.std.specs.List.{list_all}
use Rattle.std.proofs.Math.Nat.{pow-le-pow_right}
use Rattle.std.proofs.lemmas.Bool.{eqb-true, ltb-true, false≢true}
use Rattle.std.proofs.lemmas.List.{length-replicate}
use Rattle.hp_model.specs.WordOperations.{bit_number}
use Rattle.hp_model.specs.State.{Data}
use Rattle.jd_text.specs.Words.{is_text, word_lines}
use Rattle.jd_model.specs.declared.causes.ProblemCause.{ProblemCause}
use Rattle.jd_model.specs.declared.causes.ProblemCause.TheVariants.{Syntax, Range, Missing}
use Rattle.jd_text.specs.Digits.{digit_value, are_digits, hexadecimal}
use Rattle.jd_text.specs.Readings.{read_lines}
use Rattle.jd_model.specs.Assumptions.{meets}
use Rattle.jd_model.specs.Problems.{Problem, Field, field, fields, nibble_count, nibble_fields, numbers, start_with, in_range, allows, are_in_fields, is_in_field, is_fixed_at}
use Rattle.jd_model.specs.StartTexts.{line_names, StartReading, spelled, spelled_number, digits_below, line_fields, filled_up, are_met, with_numbers, with_start_line, start_of_text, with_nibble, nibbles_text, after_m, memory_words, flags_text, start_lines, start_text}
use Rattle.jd_text.proofs.Tests.{left-part, right-part}
use Rattle.jd_text.proofs.WrittenLines.{is_letter, is_proper, are_proper, word-lines-written, read-good}
use Rattle.jd_text.proofs.WrittenNumbers.{glyph-value, letters-digits, hexadecimal-number, hexadecimal-proper}
use Rattle.jd_model.proofs.FreeStarts.{start-numbers, six-flags, numbers-in-fields, at-field, in-width}

-- a reading of a start
abbrev reading : ℕ → List ℕ → StartReading
reading k ns = record { given = k; numbers = ns }

-- a line of one number is read
number-line : (p : Problem) (k : ℕ) (ns : List ℕ) (name : List ℕ) (f : Field) (n : ℕ) (lines : List (List (List ℕ)))
    → is_text (slice_index_or line_names k []) name ≡ true → ((words : List (List ℕ)) → spelled k words ≡ spelled_number words)
    → line_fields p k ≡ f ∷ [] → (k == 9) ≡ false → n < 2 ^ 64 → is_in_field f n ≡ true
    → read_lines (with_start_line p) (suc k) (reading k ns) ((name ∷ hexadecimal n ∷ []) ∷ lines)
    ≡ read_lines (with_start_line p) (suc (suc k)) (reading (suc k) (ns ++ n ∷ [])) lines
number-line p k ns name f n lines named spells fs before small inside =
    read-good (with_start_line p) (suc k) (reading k ns) (reading (suc k) (ns ++ n ∷ [])) (name ∷ hexadecimal n ∷ []) lines
    (ap (λ b. cond b (with_numbers p (reading k ns) (spelled k (hexadecimal n ∷ []))) (Err Syntax)) named
    ∙ ap (with_numbers p (reading k ns)) (spells (hexadecimal n ∷ []) ∙ ap one (hexadecimal-number n small))
    ∙ ap (λ fs. cond (are_in_fields fs (filled_up (length fs) (n ∷ [])) && are_met p k (ns ++ filled_up (length fs) (n ∷ []))) (Ok (reading (suc k) (ns ++ filled_up (length fs) (n ∷ [])))) (Err Range)) fs
    ∙ rw (inside, before))
  where
    one : Option ℕ → Option (List ℕ)
    one o = elim o [ None ↦ None | Some n ↦ Some (n ∷ []) ]

-- ---- flags

-- flags that are written are digits, and have their values
flags-digits : (flags : List Bool) → are_digits 2 (map (λ b. 48 + bit_number b) flags) ≡ true
flags-digits [] = refl
flags-digits (true ∷ flags) = flags-digits flags
flags-digits (false ∷ flags) = flags-digits flags

flags-values : (flags : List Bool) → map digit_value (map (λ b. 48 + bit_number b) flags) ≡ map bit_number flags
flags-values [] = refl
flags-values (true ∷ flags) = ap {B = List ℕ} (λ r. 1 ∷ r) (flags-values flags)
flags-values (false ∷ flags) = ap {B = List ℕ} (λ r. 0 ∷ r) (flags-values flags)

flags-below : (flags : List Bool) → digits_below 2 (map (λ b. 48 + bit_number b) flags) ≡ Some (map bit_number flags)
flags-below flags = rw (flags-digits flags) (ap (λ ns. Some ns) (flags-values flags))

-- flags that are written are a proper word
flag-letter : (b : Bool) → is_letter (48 + bit_number b) ≡ true
flag-letter true = refl
flag-letter false = refl

abbrev six_bools : Bool → Bool → Bool → Bool → Bool → Bool → List Bool
six_bools a b c d e f = a ∷ b ∷ c ∷ d ∷ e ∷ f ∷ []

flags-proper : (a b c d e f : Bool) → is_proper (flags_text (six_bools a b c d e f)) ≡ true
flags-proper a b c d e f =
    both_true (flag-letter f) (both_true (flag-letter e) (both_true (flag-letter d) (both_true (flag-letter c) (both_true (flag-letter b) (both_true (flag-letter a) refl)))))

-- a line of flags is taken
flags-step : (p : Problem) (ns : List ℕ) (a b c d e f : Bool) → are_in_fields (line_fields p 7) (map bit_number (six_bools a b c d e f)) ≡ true
    → with_start_line p (reading 7 ns) (codes "flags" ∷ flags_text (six_bools a b c d e f) ∷ []) ≡ Ok (reading 8 (ns ++ map bit_number (six_bools a b c d e f)))
flags-step p ns a b c d e f inside = ap (with_numbers p (reading 7 ns)) (flags-below (six_bools a b c d e f)) ∙ rw inside

-- ---- nibbles

abbrev are_nibbles : List ℕ → Bool
are_nibbles ns = list_all (λ n. nat_lt n 16) ns

nibble-value : (n : ℕ) → nat_lt n 16 ≡ true → digit_value (digit_glyph true n) ≡ n
nibble-value n h = glyph-value n (ltb-true n 16 h)

-- filling up after a number, and filling up nothing
filled-cons : (count d : ℕ) (xs : List ℕ) → filled_up (suc count) (d ∷ xs) ≡ d ∷ filled_up count xs
filled-cons count d xs = let one : suc count - suc (length xs) ≡ count - length xs = omega arith in ap (λ k. d ∷ (xs ++ replicate k 0)) one

filled-zero : (count : ℕ) → filled_up (suc count) [] ≡ 0 ∷ filled_up count []
filled-zero count =
    (let one : suc count - 0 ≡ suc count = omega arith in ap (λ k. replicate k 0) one)
    ∙ (let two : count ≡ count - 0 = omega arith in ap {B = List ℕ} (λ k. 0 ∷ replicate k 0) two)

-- what the text leaves out at the end is filled up
nibbles-filled : (ns : List ℕ) → are_nibbles ns ≡ true → filled_up (length ns) (map digit_value (nibbles_text ns)) ≡ ns
nibbles-filled [] h = refl
nibbles-filled (n ∷ ns) h = by_text (nibbles_text ns) (nibbles-filled ns (right-part (nat_lt n 16) (are_nibbles ns) h))
  where
    with_glyph : (text : List ℕ) → filled_up (length ns) (map digit_value text) ≡ ns
        → filled_up (suc (length ns)) (digit_value (digit_glyph true n) ∷ map digit_value text) ≡ n ∷ ns
    with_glyph text back =
        filled-cons (length ns) (digit_value (digit_glyph true n)) (map digit_value text)
        ∙ ap (λ d. d ∷ filled_up (length ns) (map digit_value text)) (nibble-value n (left-part (nat_lt n 16) (are_nibbles ns) h))
        ∙ ap {B = List ℕ} (λ r. n ∷ r) back

    by_zero : (z : Bool) → (n == 0) ≡ z → filled_up (length ns) [] ≡ ns → filled_up (suc (length ns)) (map digit_value (cond z [] (digit_glyph true n ∷ []))) ≡ n ∷ ns
    by_zero true e back = filled-zero (length ns) ∙ ap {B = List ℕ} (λ r. 0 ∷ r) back ∙ rw (eqb-true n 0 e)
    by_zero false e back = with_glyph [] back

    by_text : (text : List ℕ) → filled_up (length ns) (map digit_value text) ≡ ns → filled_up (suc (length ns)) (map digit_value (with_nibble n text)) ≡ n ∷ ns
    by_text [] back = by_zero (n == 0) refl back
    by_text (b ∷ text) back = with_glyph (b ∷ text) back

-- nibbles that are written are digits
nibbles-digits : (ns : List ℕ) → are_nibbles ns ≡ true → are_digits 16 (nibbles_text ns) ≡ true
nibbles-digits [] h = refl
nibbles-digits (n ∷ ns) h = by_text (nibbles_text ns) (nibbles-digits ns (right-part (nat_lt n 16) (are_nibbles ns) h))
  where
    glyph : nat_lt (digit_value (digit_glyph true n)) 16 ≡ true
    glyph =
        let one : nat_lt n 16 ≡ true = left-part (nat_lt n 16) (are_nibbles ns) h in
        ap (λ d. nat_lt d 16) (nibble-value n one) ∙ one

    by_zero : (z : Bool) → are_digits 16 (cond z [] (digit_glyph true n ∷ [])) ≡ true
    by_zero true = refl
    by_zero false = both_true glyph refl

    by_text : (text : List ℕ) → are_digits 16 text ≡ true → are_digits 16 (with_nibble n text) ≡ true
    by_text [] h = by_zero (n == 0)
    by_text (b ∷ text) h = both_true glyph h

memory-proper : (text : List ℕ) → are_digits 16 text ≡ true → list_all is_proper (after_m text) ≡ true
memory-proper [] h = refl
memory-proper (b ∷ text) h = both_true (letters-digits (b ∷ text) h) refl

-- what a line of nibbles says
memory-said : (p : Problem) (ns text : List ℕ) → are_digits 16 text ≡ true
    → with_start_line p (reading 8 ns) (codes "M" ∷ after_m text) ≡ with_numbers p (reading 8 ns) (Some (map digit_value text))
memory-said p ns [] h = refl
memory-said p ns (b ∷ text) h = ap (λ e. with_numbers p (reading 8 ns) (cond e (Some (map digit_value (b ∷ text))) None)) h

-- numbers in fields of four bits are nibbles
record AreNibbles (count : ℕ) (ns : List ℕ) : Type 0 where
  many : count ≡ length ns
  small : are_nibbles ns ≡ true

nibbles-in-fields : (count : ℕ) (fixed : Option ℕ) (ns : List ℕ) → are_in_fields (replicate count (record { width = 4; fixed = fixed })) ns ≡ true → AreNibbles count ns
nibbles-in-fields zero fixed [] h = record { many = refl; small = refl }
nibbles-in-fields zero fixed (n ∷ ns) h = absurd (false≢true h)
nibbles-in-fields (suc count) fixed [] h = absurd (false≢true h)
nibbles-in-fields (suc count) fixed (n ∷ ns) h =
    let f : Field = record { width = 4; fixed = fixed } in
    let more = nibbles-in-fields count fixed ns (right-part (is_in_field f n) (are_in_fields (replicate count f) ns) h) in
    record {
      many = ap suc more.many;
      small = both_true (left-part (nat_lt n 16) (is_fixed_at fixed n) (left-part (is_in_field f n) (are_in_fields (replicate count f) ns) h)) more.small;
    }

-- a line of nibbles is taken
memory-step : (p : Problem) (ns nibbles : List ℕ) → are_in_fields (replicate (nibble_count p) (field p 4 12)) nibbles ≡ true
    → with_start_line p (reading 8 ns) (memory_words nibbles) ≡ Ok (reading 9 (ns ++ nibbles))
memory-step p ns nibbles inside =
    let fs = replicate (nibble_count p) (field p 4 12) in
    let are = nibbles-in-fields (nibble_count p) (field p 4 12).fixed nibbles inside in
    let size : length fs ≡ length nibbles = length-replicate (nibble_count p) (field p 4 12) ∙ are.many in
    let filled : filled_up (length fs) (map digit_value (nibbles_text nibbles)) ≡ nibbles =
    ap (λ k. filled_up k (map digit_value (nibbles_text nibbles))) size ∙ nibbles-filled nibbles are.small in
    memory-said p ns (nibbles_text nibbles) (nibbles-digits nibbles are.small)
    ∙ ap (λ all. cond (are_in_fields fs all && are_met p 8 (ns ++ all)) (Ok (reading 9 (ns ++ all))) (Err Range)) filled ∙ rw inside

-- ---- the whole start

-- some fields after others, and some before
drop-fields : (k : ℕ) (fs : List Field) (ns : List ℕ) → are_in_fields fs ns ≡ true → are_in_fields (drop k fs) (drop k ns) ≡ true
drop-fields zero fs ns h = h
drop-fields (suc k) [] [] h = refl
drop-fields (suc k) [] (n ∷ ns) h = absurd (false≢true h)
drop-fields (suc k) (f ∷ fs) [] h = absurd (false≢true h)
drop-fields (suc k) (f ∷ fs) (n ∷ ns) h = drop-fields k fs ns (right-part (is_in_field f n) (are_in_fields fs ns) h)

take-fields : (k : ℕ) (fs : List Field) (ns : List ℕ) → are_in_fields fs ns ≡ true → are_in_fields (take k fs) (take k ns) ≡ true
take-fields zero fs ns h = refl
take-fields (suc k) [] [] h = refl
take-fields (suc k) [] (n ∷ ns) h = absurd (false≢true h)
take-fields (suc k) (f ∷ fs) [] h = absurd (false≢true h)
take-fields (suc k) (f ∷ fs) (n ∷ ns) h =
    both_true (left-part (is_in_field f n) (are_in_fields fs ns) h) (take-fields k fs ns (right-part (is_in_field f n) (are_in_fields fs ns) h))

-- the number of a part is in its field
part-in : (p : Problem) (s : Data) (k : ℕ) → are_in_fields (fields p) (numbers s) ≡ true → k < 12
    → is_in_field (get_or (fields p) k (field p 1 6)) (get_or (numbers s) k 0) ≡ true
part-in p s k h inside = at-field (fields p) (numbers s) k (field p 1 6) 0 h (omega (arith, inside))

-- the words of a start have at most 64 bits
record AreShort (s : Data) : Type 0 where
  x : s.x < 2 ^ 64
  y : s.y < 2 ^ 64
  z : s.z < 2 ^ 64
  t : s.t < 2 ^ 64
  last : s.last < 2 ^ 64
  index : s.index < 2 ^ 64

are-short : (p : Problem) (s : Data) → p.size ≤ 64 → are_in_fields (fields p) (numbers s) ≡ true → AreShort s
are-short p s w h = record {
  x = short (field p p.size 0) s.x w (part-in p s 0 h (lit≤ tt));
  y = short (field p p.size 1) s.y w (part-in p s 1 h (lit≤ tt));
  z = short (field p p.size 2) s.z w (part-in p s 2 h (lit≤ tt));
  t = short (field p p.size 3) s.t w (part-in p s 3 h (lit≤ tt));
  last = short (field p p.size 4) s.last w (part-in p s 4 h (lit≤ tt));
  index = short (field p 64 5) s.index (lit≤ tt) (part-in p s 5 h (lit≤ tt));
}
  where
    short : (f : Field) (n : ℕ) → f.width ≤ 64 → is_in_field f n ≡ true → n < 2 ^ 64
    short f n w h = omega (arith, in-width f n h, pow-le-pow_right {n = 2} (lit≤ tt) w)

-- the last line is taken where the numbers are those of a start that meets the assumptions
end-step : (p : Problem) (s : Data) → length s.flags ≡ 6 → meets p.assumed s ≡ true
    → with_start_line p (reading 9 (numbers s)) (codes "end" ∷ []) ≡ Ok (reading 10 (numbers s))
end-step p s six met =
    ap (λ ns. cond (meets p.assumed (start_with ns)) (Ok (reading 10 ns)) (Err Range)) (append-nil (numbers s))
    ∙ ap (λ start. cond (meets p.assumed start) (Ok (reading 10 (numbers s))) (Err Range)) (start-numbers s six)
    ∙ rw met

-- the reading of a start's lines, where these are its parts
start-read : (p : Problem) (x y z t last index : ℕ) (a b c d e f : Bool) (nibbles : List ℕ)
    → let s : Data = record { x = x; y = y; z = z; t = t; last = last; index = index; flags = six_bools a b c d e f; nibbles = nibbles } in
    AreShort s → are_in_fields (fields p) (numbers s) ≡ true → meets p.assumed s ≡ true
    → read_lines (with_start_line p) 1 (reading 0 []) (start_lines s) ≡ Ok (reading 10 (numbers s))
start-read p x y z t last index a b c d e f nibbles short h met =
    let s : Data = record { x = x; y = y; z = z; t = t; last = last; index = index; flags = six_bools a b c d e f; nibbles = nibbles } in
    let take_line = with_start_line p in
    let flags : are_in_fields (line_fields p 7) (map bit_number s.flags) ≡ true = take-fields 6 (drop 6 (fields p)) (drop 6 (numbers s)) (drop-fields 6 (fields p) (numbers s) h) in
    let memory : are_in_fields (replicate (nibble_count p) (field p 4 12)) nibbles ≡ true = drop-fields 12 (fields p) (numbers s) h in
    let from_end : List (List (List ℕ)) = (codes "end" ∷ []) ∷ [] in
    let from_memory : List (List (List ℕ)) = memory_words nibbles ∷ from_end in
    let from_flags : List (List (List ℕ)) = (codes "flags" ∷ flags_text s.flags ∷ []) ∷ from_memory in
    let from_index : List (List (List ℕ)) = (codes "I" ∷ hexadecimal index ∷ []) ∷ from_flags in
    let from_last : List (List (List ℕ)) = (codes "L" ∷ hexadecimal last ∷ []) ∷ from_index in
    let from_t : List (List (List ℕ)) = (codes "T" ∷ hexadecimal t ∷ []) ∷ from_last in
    let from_z : List (List (List ℕ)) = (codes "Z" ∷ hexadecimal z ∷ []) ∷ from_t in
    let from_y : List (List (List ℕ)) = (codes "Y" ∷ hexadecimal y ∷ []) ∷ from_z in
    let from_x : List (List (List ℕ)) = (codes "X" ∷ hexadecimal x ∷ []) ∷ from_y in
    let words = x ∷ y ∷ z ∷ t ∷ last ∷ index ∷ [] in
    read-good take_line 1 (reading 0 []) (reading 1 []) (codes "start" ∷ []) from_x refl
    ∙ number-line p 1 [] (codes "X") (field p p.size 0) x from_y refl (λ words. refl) refl refl short.x (part-in p s 0 h (lit≤ tt))
    ∙ number-line p 2 (take 1 words) (codes "Y") (field p p.size 1) y from_z refl (λ words. refl) refl refl short.y (part-in p s 1 h (lit≤ tt))
    ∙ number-line p 3 (take 2 words) (codes "Z") (field p p.size 2) z from_t refl (λ words. refl) refl refl short.z (part-in p s 2 h (lit≤ tt))
    ∙ number-line p 4 (take 3 words) (codes "T") (field p p.size 3) t from_last refl (λ words. refl) refl refl short.t (part-in p s 3 h (lit≤ tt))
    ∙ number-line p 5 (take 4 words) (codes "L") (field p p.size 4) last from_index refl (λ words. refl) refl refl short.last (part-in p s 4 h (lit≤ tt))
    ∙ number-line p 6 (take 5 words) (codes "I") (field p 64 5) index from_flags refl (λ words. refl) refl refl short.index (part-in p s 5 h (lit≤ tt))
    ∙ read-good take_line 8 (reading 7 words) (reading 8 (words ++ map bit_number s.flags)) (codes "flags" ∷ flags_text s.flags ∷ []) from_memory (flags-step p words a b c d e f flags)
    ∙ read-good take_line 9 (reading 8 (words ++ map bit_number s.flags)) (reading 9 (numbers s)) (memory_words nibbles) from_end (memory-step p (words ++ map bit_number s.flags) nibbles memory)
    ∙ read-good take_line 10 (reading 9 (numbers s)) (reading 10 (numbers s)) (codes "end" ∷ []) [] (end-step p s refl met)

-- a name and a number
named-proper : (name : List ℕ) (n : ℕ) → is_proper name ≡ true → n < 2 ^ 64 → list_all is_proper (name ∷ hexadecimal n ∷ []) ≡ true
named-proper name n h small = both_true h (both_true (hexadecimal-proper n small) refl)

-- the words of a start's lines are proper
start-proper : (x y z t last index : ℕ) (a b c d e f : Bool) (nibbles : List ℕ)
    → let s : Data = record { x = x; y = y; z = z; t = t; last = last; index = index; flags = six_bools a b c d e f; nibbles = nibbles } in
    AreShort s → are_nibbles nibbles ≡ true → are_proper (start_lines s) ≡ true
start-proper x y z t last index a b c d e f nibbles short small =
    both_true refl
    (both_true (named-proper (codes "X") x refl short.x)
    (both_true (named-proper (codes "Y") y refl short.y)
    (both_true (named-proper (codes "Z") z refl short.z)
    (both_true (named-proper (codes "T") t refl short.t)
    (both_true (named-proper (codes "L") last refl short.last)
    (both_true (named-proper (codes "I") index refl short.index)
    (both_true (both_true refl (both_true (flags-proper a b c d e f) refl))
    (both_true (both_true refl (memory-proper (nibbles_text nibbles) (nibbles-digits nibbles small))) refl))))))))

-- what comes of a reading of all lines
abbrev finished : ℕ → Result StartReading (ℕ × ProblemCause) → Result Data (ℕ × ProblemCause)
finished count r = elim r [ Err fault ↦ Err fault | Ok r ↦ cond (r.given == 10) (Ok (start_with r.numbers)) (Err (suc count, Missing)) ]

-- a start's text reads back, part by part
back-with : (p : Problem) (x y z t last index : ℕ) (flags : List Bool) (nibbles : List ℕ) → p.size ≤ 64
    → let s : Data = record { x = x; y = y; z = z; t = t; last = last; index = index; flags = flags; nibbles = nibbles } in
    length flags ≡ 6 → are_in_fields (fields p) (numbers s) ≡ true → meets p.assumed s ≡ true → start_of_text p (start_text s) ≡ Ok s
back-with p x y z t last index (a ∷ b ∷ c ∷ d ∷ e ∷ f ∷ []) nibbles w six h met =
    let s : Data = record { x = x; y = y; z = z; t = t; last = last; index = index; flags = six_bools a b c d e f; nibbles = nibbles } in
    let short = are-short p s w h in
    let are = nibbles-in-fields (nibble_count p) (field p 4 12).fixed nibbles (drop-fields 12 (fields p) (numbers s) h) in
    let lines : word_lines (start_text s) ≡ start_lines s = word-lines-written (start_lines s) (start-proper x y z t last index a b c d e f nibbles short are.small) in
    ap (λ ls. finished (length ls) (read_lines (with_start_line p) 1 (reading 0 []) ls)) lines
    ∙ ap (finished (length (start_lines s))) (start-read p x y z t last index a b c d e f nibbles short h met)
    ∙ ap (λ s. Ok s) (start-numbers s six)
back-with p x y z t last index (a ∷ b ∷ c ∷ d ∷ e ∷ f ∷ g ∷ flags) nibbles w six h met = absurd (omega (arith, six))
back-with p x y z t last index _ nibbles w six h met = absurd (omega (arith, six))

pub start-back : (p : Problem) (s : Data) → p.size ≤ 64 → allows p s ≡ true → start_of_text p (start_text s) ≡ Ok s
start-back p s most h =
    let inside = left-part (in_range p s) (meets p.assumed s) h in
    back-with p s.x s.y s.z s.t s.last s.index s.flags s.nibbles most (six-flags p s inside) (numbers-in-fields p s inside)
    (right-part (in_range p s) (meets p.assumed s) h)
