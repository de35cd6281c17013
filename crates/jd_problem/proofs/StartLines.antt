-- The lines of a start: the fields of each line, and numbers taken or refused.
use Rattle.std.proofs.Common.{◌≡◌, ℕ, zero, suc, ◌+◌, ◌-◌, ◌<◌, ◌≤◌, ◌==◌, Bool, true, false, List, [], ◌∷◌, ◌++◌, length, replicate, Some, refl, sym, ap, ◌∙◌, subst, arith}
use Rattle.std.specs.Prelude.{Result, Ok, Err, ◌&&◌, ◌||◌, slice_range, slice_index_or, if◌then◌else◌, not, nat_eq}
use Rattle.std.specs.Cmp.Lexicographic.{pointwise}
use Rattle.std.specs.List.{All}
use Rattle.std.proofs.Math.Bool.{and-true}
use Rattle.std.proofs.lemmas.Bool.{false≢true}
use Rattle.std.proofs.lemmas.Bool.Decides.{nat_tests}
use Rattle.std.proofs.lemmas.List.{append-nil, length-append, length-replicate}
use Rattle.std.proofs.lemmas.List.Elements.{filter_passes, All-head}
use Rattle.jd_text.specs.Lines.{pieces}
use Rattle.jd_text.specs.Words.{is_separator, is_word, words_of}
use Rattle.jd_text.specs.Places.{words_at, IsWordTo}
use Rattle.jd_model.specs.declared.causes.ProblemCause.{ProblemCause}
use Rattle.jd_model.specs.declared.causes.ProblemCause.TheVariants.{Range}
use Rattle.jd_model.specs.Assumptions.{meets}
use Rattle.jd_model.specs.Problems.{Problem, Field, field, content_fields, nibble_fields, nibble_count, start_with, are_in_fields}
use Rattle.jd_model.specs.StartTexts.{StartReading, line_names, line_fields, filled_up, are_met, with_numbers}
use Rattle.jd_problem.specs.StartReadings.{content_given}
use Rattle.jd_problem.proofs.FieldLists.{other-count}

-- ---- the line that is due

abbrev IsWord : List ℕ → Type 0
IsWord word = is_word word ≡ true

-- no word is empty
word-of : (line word : List ℕ) (words : List (List ℕ)) → words_of line ≡ word ∷ words → IsWord word
word-of line word words e = All-head IsWord word words (subst (All IsWord) e (filter_passes is_word (pieces is_separator line)))

unequal-to-none : (word : List ℕ) → IsWord word → not (pointwise nat_eq word []) ≡ true
unequal-to-none [] is = absurd (false≢true is)
unequal-to-none (b ∷ word) is = refl

-- a line begins with the name that is due
pub due : (line word name : List ℕ) (end k : ℕ) → IsWordTo line 0 word end → k ≤ 10 → name ≡ slice_index_or line_names k []
    → (unequal : Bool) → unequal ≡ not (pointwise nat_eq word name) → unequal ≡ false → k < 10
due line word name end k t few named unequal is differs =
    let never : k ≡ 10 → ⊥ = λ ten.
    let none : name ≡ [] = named ∙ ap (λ n. slice_index_or line_names n []) ten in
    false≢true (sym differs ∙ is ∙ ap (λ xs. not (pointwise nat_eq word xs)) none ∙ unequal-to-none word (word-of line word (words_at line end) t.words)) in
    grind (arith, never)

-- ---- numbers filled up with zeros

filled_up-whole : (count : ℕ) (ns : List ℕ) → count ≤ length ns → filled_up count ns ≡ ns
filled_up-whole count ns enough =
    let none : count - length ns ≡ 0 = omega arith in
    ap (λ n. ns ++ replicate n 0) none ∙ append-nil ns

-- ---- the numbers of a line

-- what numbers of a line give, where they are in its fields or not
abbrev pub numbers_taken : Bool → StartReading → List ℕ → Result StartReading ProblemCause
numbers_taken b r all = if b then Ok (record { given = suc r.given; numbers = r.numbers ++ all }) else Err Range

module _ (p : Problem) (r : StartReading) (ns all : List ℕ) (fs : List Field) (early : r.given < 9) (of : line_fields p r.given ≡ fs) (filled : filled_up (length fs) ns ≡ all) where
  with_numbers-is : with_numbers p r (Some ns) ≡ numbers_taken (are_in_fields fs all) r all
  with_numbers-is =
      let other : (r.given == 9) ≡ false = grind (arith, nat_tests, early) in
      ap (λ gs. let ms = filled_up (length gs) ns in numbers_taken (are_in_fields gs ms && are_met p r.given (r.numbers ++ ms)) r ms) of
      ∙ ap (λ ms. numbers_taken (are_in_fields fs ms && are_met p r.given (r.numbers ++ ms)) r ms) filled
      ∙ ap (λ late. numbers_taken (are_in_fields fs all && (not late || meets p.assumed (start_with (r.numbers ++ all)))) r all) other
      ∙ ap (λ b. numbers_taken b r all) (and-true (are_in_fields fs all))

  with_numbers-when : (b : Bool) → are_in_fields fs all ≡ b → with_numbers p r (Some ns) ≡ numbers_taken b r all
  with_numbers-when b h = with_numbers-is ∙ ap (λ c. numbers_taken c r all) h

-- ---- the lines before that of the nibbles

from-one-to-seven : (P : ℕ → Type 0) → P 1 → P 2 → P 3 → P 4 → P 5 → P 6 → P 7 → (k : ℕ) → 1 ≤ k → k ≤ 7 → P k
from-one-to-seven P a b c d e f g (suc zero) least most = a
from-one-to-seven P a b c d e f g (suc (suc zero)) least most = b
from-one-to-seven P a b c d e f g (suc (suc (suc zero))) least most = c
from-one-to-seven P a b c d e f g (suc (suc (suc (suc zero)))) least most = d
from-one-to-seven P a b c d e f g (suc (suc (suc (suc (suc zero))))) least most = e
from-one-to-seven P a b c d e f g (suc (suc (suc (suc (suc (suc zero)))))) least most = f
from-one-to-seven P a b c d e f g (suc (suc (suc (suc (suc (suc (suc zero))))))) least most = g
from-one-to-seven P a b c d e f g _ least most = absurd (omega (arith, least, most))

module _ (p : Problem) where
  abbrev HasSize : ℕ → Type 0
  HasSize k = (n : ℕ) → content_given k + n ≡ content_given (k + 1) → length (line_fields p k) ≡ n

  line-size : (k : ℕ) → 1 ≤ k → k ≤ 7 → HasSize k
  line-size =
      let one : (n : ℕ) (m : ℕ) → m + n ≡ m + 1 → 1 ≡ n = λ n m h. omega (arith, h) in
      from-one-to-seven HasSize (λ n. one n 0) (λ n. one n 1) (λ n. one n 2) (λ n. one n 3) (λ n. one n 4) (λ n. one n 5) (λ n h. omega (arith, h))

  abbrev IsRange : ℕ → Type 0
  IsRange k = slice_range (content_fields p) (k - 1) (k - 1 + length (line_fields p k)) ≡ line_fields p k

  line-range : (k : ℕ) → 1 ≤ k → k ≤ 7 → IsRange k
  line-range = from-one-to-seven IsRange refl refl refl refl refl refl refl

  module _ (r : StartReading) (ns : List ℕ) (least : 1 ≤ r.given) (most : r.given ≤ 7) (count : content_given r.given + length ns ≡ content_given (r.given + 1))
      (fs : List Field) (at : ℕ) (first : fs ≡ content_fields p) (place : at ≡ r.given) where
    pub line-numbers : (b : Bool) → are_in_fields (slice_range fs (at - 1) (at - 1 + length ns)) ns ≡ b
        → with_numbers p r (Some ns) ≡ numbers_taken b r ns
    line-numbers b h =
        let size = line-size r.given least most (length ns) count in
        let range : line_fields p r.given ≡ slice_range fs (at - 1) (at - 1 + length ns) =
        sym (ap (λ gs. slice_range gs (at - 1) (at - 1 + length ns)) first
        ∙ ap (λ k. slice_range (content_fields p) (k - 1) (k - 1 + length ns)) place
        ∙ ap (λ n. slice_range (content_fields p) (r.given - 1) (r.given - 1 + n)) (sym size)
        ∙ line-range r.given least most) in
        with_numbers-when p r ns ns (line_fields p r.given) (omega (arith, most)) refl (filled_up-whole (length (line_fields p r.given)) ns (omega (arith, size)))
        b (ap (λ gs. are_in_fields gs ns) range ∙ h)

-- ---- the line of the nibbles

pub nibbles-refused : (p : Problem) (r : StartReading) (ns : List ℕ) → r.given ≡ 8 → nibble_count p < length ns → with_numbers p r (Some ns) ≡ Err Range
nibbles-refused p r ns line many =
    let count = length-replicate (nibble_count p) (field p 4 12) in
    let differ : (length ns == nibble_count p) ≡ false = grind (arith, nat_tests) in
    with_numbers-when p r ns ns (nibble_fields p) (omega (arith, line)) (ap (line_fields p) line) (filled_up-whole (length (nibble_fields p)) ns (omega (arith, count, many)))
    false (sym (other-count (nibble_count p) (nibble_count p) (field p 4 12) ns refl (λ same. absurd (omega (arith, same, many)))) ∙ differ)

-- as many nibbles as there are
filled-count : (count : ℕ) (ns : List ℕ) → length ns ≤ count → length (filled_up count ns) ≡ count
filled-count count ns few =
    let zeros : List ℕ = replicate (count - length ns) 0 in
    omega (arith, length-append ns zeros, length-replicate {A = ℕ} (count - length ns) 0, few)

-- nibbles that were filled up are taken where each is in its field
pub nibbles-judged : (p : Problem) (r : StartReading) (ns all given shown : List ℕ) (f : Field) (k : ℕ) (b : Bool) → r.given ≡ 8 → length ns ≤ nibble_count p
    → given ≡ ns → k ≡ nibble_count p → all ≡ filled_up k given → f ≡ field p 4 12 → shown ≡ all → b ≡ are_in_fields (replicate (length shown) f) shown
    → with_numbers p r (Some ns) ≡ numbers_taken b r all
nibbles-judged p r ns all given shown f k b line few are count filled of same judged =
    let count_all : all ≡ filled_up (nibble_count p) ns = filled ∙ ap (λ k. filled_up k given) count ∙ ap (filled_up (nibble_count p)) are in
    let size : length all ≡ nibble_count p = ap length count_all ∙ filled-count (nibble_count p) ns few in
    with_numbers-when p r ns all (nibble_fields p) (omega (arith, line)) (ap (line_fields p) line)
    (ap (λ k. filled_up k ns) (length-replicate (nibble_count p) (field p 4 12)) ∙ sym count_all) b
    (sym (judged ∙ ap (λ ms. are_in_fields (replicate (length ms) f) ms) same ∙ ap (λ g. are_in_fields (replicate (length all) g) all) of
    ∙ ap (λ n. are_in_fields (replicate n (field p 4 12)) all) size))
