-- Comparing what is observed of two contents, one number and one nibble after another.
use Rattle.std.proofs.Common.{◌≡◌, ℕ, zero, suc, ◌+◌, ◌-◌, ◌*◌, ◌/◌, ◌%◌, ◌^◌, ◌<◌, ◌≤◌, ◌&&◌, ◌==◌, Bool, true, false, not, List, [], ◌∷◌, ◌++◌, length, map, take, drop, get_or, slice_index, Option, Some, None, refl, sym, ap, ◌∙◌, subst, add-one, arith}
use Rattle.std.specs.Prelude.{◌||◌, bytes_eq, slice_range}
use Rattle.std.proofs.lemmas.List.{length-map}
use Rattle.hp_model.specs.declared.End.{End}
use Rattle.hp_model.specs.Lists.{tabulated, tabulated_from}
use Rattle.hp_model.specs.WordOperations.{bit_number}
use Rattle.hp_model.specs.State.{Data, flag}
use Rattle.hp_model.proofs.Tabulated.{length-tabulated}
use Rattle.jd_model.specs.Problems.{content_numbers}
use Rattle.jd_model.specs.Seen.{agree_on, same_end}
use Rattle.jd_agreement.specs.Agreement.{same_at, same_numbers, same_parts}
use Rattle.jd_agreement.proofs.Observed.{parts-decided, same-at-end, same-left, same-stopped}
use Rattle.jd_books.specs.Walks.{seen_as}
use Rattle.jd_circuit.specs.declared.literals.Lit.{Lit}
use Rattle.jd_circuit.specs.Meaning.{lit_value}
use Rattle.jd_vectors.specs.Number.{Inside, bit, number}
use Rattle.jd_vectors.proofs.Kept.{Inside-drop, Inside-take}
use Rattle.jd_content.specs.declared.content.SymContent.{SymContent}
use Rattle.jd_content.specs.Meaning.{data_on, nibble_on, nibbles_on}
use Rattle.jd_difference.specs.Ends.{are_alike}

-- ---- one number

bit-is : (b : Bool) → bit b ≡ bit_number b
bit-is true = refl
bit-is false = refl

-- a literal alone
pub number-one : (val : ℕ → Bool) (l : Lit) (b : Bool) → lit_value val l ≡ b → number val (l ∷ []) ≡ bit_number b
number-one val l b e = (let last : bit (lit_value val l) + 2 * 0 ≡ bit (lit_value val l) = omega arith in last) ∙ ap bit e ∙ bit-is b

at-mapped : (flags : List Bool) (k : ℕ) → slice_index (map bit_number flags) k ≡ bit_number (get_or flags k false)
at-mapped [] k = refl
at-mapped (b ∷ flags) zero = refl
at-mapped (b ∷ flags) (suc k) = at-mapped flags k

pub at-flag : (d : Data) (place k : ℕ) → place ≡ suc (suc (suc (suc (suc (suc k))))) → slice_index (content_numbers d) place ≡ bit_number (flag d k)
at-flag d place k e = ap (slice_index (content_numbers d)) e ∙ at-mapped d.flags k

-- ---- one number after another

and-together : (a b c : Bool) → (a && (b && c)) ≡ ((a && b) && c)
and-together true b c = refl
and-together false b c = refl

and-true : (b : Bool) → (b && true) ≡ b
and-true true = refl
and-true false = refl

numbers-step : (marks : List Bool) (firsts seconds : List ℕ) (i : ℕ) → i < length firsts → i < length seconds
    → same_numbers (drop i marks) (drop i firsts) (drop i seconds)
    ≡ (same_at marks firsts seconds i && same_numbers (drop (i + 1) marks) (drop (i + 1) firsts) (drop (i + 1) seconds))
numbers-step marks firsts seconds i h k = by_test (same_at marks firsts seconds i) refl
  where
    by_test : (b : Bool) → b ≡ same_at marks firsts seconds i
        → same_numbers (drop i marks) (drop i firsts) (drop i seconds) ≡ (b && same_numbers (drop (i + 1) marks) (drop (i + 1) firsts) (drop (i + 1) seconds))
    by_test true e = sym (same-left marks firsts seconds i true _ h k e refl refl)
    by_test false e = sym (same-stopped marks firsts seconds i false _ h k e refl refl)

-- the numbers so far are the same, and those after them decide
pub numbers-turn : (marks : List Bool) (firsts seconds : List ℕ) (i : ℕ) (all one new whole : Bool) → i < length firsts → i < length seconds
    → new ≡ (all && one) → one ≡ same_at marks firsts seconds i → (all && same_numbers (drop i marks) (drop i firsts) (drop i seconds)) ≡ whole
    → (new && same_numbers (drop (i + 1) marks) (drop (i + 1) firsts) (drop (i + 1) seconds)) ≡ whole
numbers-turn marks firsts seconds i all one new whole h k joined is e =
    let rest = same_numbers (drop (i + 1) marks) (drop (i + 1) firsts) (drop (i + 1) seconds) in
    ap (λ b. b && rest) (joined ∙ ap (λ b. all && b) is) ∙ sym (and-together all (same_at marks firsts seconds i) rest)
    ∙ ap (λ b. all && b) (sym (numbers-step marks firsts seconds i h k)) ∙ e

pub numbers-done : (marks : List Bool) (firsts seconds : List ℕ) (i : ℕ) (all whole : Bool) → length firsts ≤ i
    → (all && same_numbers (drop i marks) (drop i firsts) (drop i seconds)) ≡ whole → all ≡ whole
numbers-done marks firsts seconds i all whole h e = sym (and-true all) ∙ ap (λ b. all && b) (sym (same-at-end marks firsts seconds i h)) ∙ e

pub number-count : (d : Data) → length d.flags ≡ 6 → length (content_numbers d) ≡ 12
number-count d h = omega (arith, h, length-map d.flags bit_number)

pub flags-count : (val : ℕ → Bool) (content : SymContent) → length content.flags ≡ 6 → length (data_on val content).flags ≡ 6
flags-count val content h = length-map content.flags (lit_value val) ∙ h

-- the parts, where the nibbles aren't observed and where they are
pub parts-without : (marks : List Bool) (d c : Data) (numbers shown : Bool) → length d.flags ≡ 6 → length c.flags ≡ 6
    → numbers ≡ same_numbers marks (content_numbers d) (content_numbers c) → shown ≡ get_or marks 12 false → shown ≡ false → numbers ≡ same_parts marks d c
parts-without marks d c numbers shown h k is e off =
    sym (and-true numbers) ∙ ap (λ b. numbers && (not b || bytes_eq d.nibbles c.nibbles)) (sym off) ∙ parts-decided marks d c numbers shown h k is e

pub parts-beside : (marks : List Bool) (d c : Data) (numbers shown : Bool) → length d.flags ≡ 6 → length c.flags ≡ 6
    → numbers ≡ same_numbers marks (content_numbers d) (content_numbers c) → shown ≡ get_or marks 12 false → shown ≡ true
    → (numbers && bytes_eq d.nibbles c.nibbles) ≡ same_parts marks d c
parts-beside marks d c numbers shown h k is e on =
    ap (λ b. numbers && (not b || bytes_eq d.nibbles c.nibbles)) (sym on) ∙ parts-decided marks d c numbers shown h k is e

-- ---- one nibble after another

pub nibble-read : (val : ℕ → Bool) (ls : List Lit) (place : ℕ) → number val (slice_range ls (4 * place) (4 * place + 4)) ≡ nibble_on val ls place
nibble-read val ls place = let four : 4 * place + 4 - 4 * place ≡ 4 = omega arith in ap (λ n. number val (take n (drop (4 * place) ls))) four

tabulated-push : (f : ℕ → ℕ) (first n : ℕ) → tabulated_from f first (suc n) ≡ tabulated_from f first n ++ f (first + n) ∷ []
tabulated-push f first zero = let e : first ≡ first + 0 = omega arith in ap (λ k. f k ∷ []) e
tabulated-push f first (suc n) =
    ap {B = List ℕ} (λ r. f first ∷ r) (tabulated-push f (suc first) n ∙ (let e : suc first + n ≡ first + suc n = omega arith in ap (λ k. tabulated_from f (suc first) n ++ f k ∷ []) e))

bytes-push : (xs ys : List ℕ) (a b : ℕ) → length xs ≡ length ys → bytes_eq (xs ++ a ∷ []) (ys ++ b ∷ []) ≡ (bytes_eq xs ys && (a == b))
bytes-push [] [] a b e = and-true (a == b)
bytes-push [] (y ∷ ys) a b e = absurd (omega (arith, e))
bytes-push (x ∷ xs) [] a b e = absurd (omega (arith, e))
bytes-push (x ∷ xs) (y ∷ ys) a b e = ap (λ r. (x == y) && r) (bytes-push xs ys a b (omega (arith, e))) ∙ and-together (x == y) (bytes_eq xs ys) (a == b)

pub nibbles-turn : (f g : ℕ → ℕ) (n : ℕ) → bytes_eq (tabulated f (n + 1)) (tabulated g (n + 1)) ≡ (bytes_eq (tabulated f n) (tabulated g n) && (f n == g n))
nibbles-turn f g n =
    rw add-one (ap (λ xs. bytes_eq xs (tabulated g (suc n))) (tabulated-push f 0 n) ∙ ap (bytes_eq (tabulated f n ++ f (0 + n) ∷ [])) (tabulated-push g 0 n)
    ∙ bytes-push (tabulated f n) (tabulated g n) (f (0 + n)) (g (0 + n)) (length-tabulated f n ∙ sym (length-tabulated g n))
    ∙ (let e : 0 + n ≡ n = omega arith in ap (λ k. bytes_eq (tabulated f n) (tabulated g n) && (f k == g k)) e))

pub quarter : (n m : ℕ) → n ≡ 4 * m → n / 4 ≡ m
quarter n m h = omega (arith, h)

-- ---- both

pub ends-decided : (observed : List Bool) (first second : Option End) (d c : Data)
    → agree_on observed (seen_as first d) (seen_as second c) ≡ (are_alike first second && same_parts observed d c)
ends-decided observed None None d c = refl
ends-decided observed None (Some f) d c = refl
ends-decided observed (Some e) None d c = refl
ends-decided observed (Some e) (Some f) d c = refl
