-- Comparing what is observed, one number after another and then the nibbles.
use Rattle.std.proofs.Common.{◌≡◌, ℕ, zero, suc, ◌<◌, ◌&&◌, ◌==◌, Bool, true, false, not, List, [], ◌∷◌, ◌++◌, length, map, drop, get_or, refl, sym, ap, ◌∙◌, ◌≤◌, ◌+◌, add-one, arith}
use Rattle.std.specs.Prelude.{◌||◌, bytes_eq}
use Rattle.std.specs.Cmp.Lexicographic.{pointwise}
use Rattle.std.proofs.Math.Seq.{drop-nil}
use Rattle.std.proofs.lemmas.List.{drop_all, length-map}
use Rattle.hp_model.specs.WordOperations.{bit_number}
use Rattle.hp_model.specs.State.{Data}
use Rattle.jd_model.specs.Problems.{content_numbers}
use Rattle.jd_model.specs.ProblemWriter.{chosen}
use Rattle.jd_agreement.specs.Agreement.{same_at, same_numbers, same_parts}

-- the numbers as parts, and the nibbles after them
abbrev pub parts_with : List ℕ → List ℕ → List (List ℕ)
parts_with numbers nibbles = map (λ n. n ∷ []) numbers ++ nibbles ∷ []

abbrev are_same : List Bool → List (List ℕ) → List (List ℕ) → Bool
are_same marks firsts seconds = pointwise bytes_eq (chosen marks firsts) (chosen marks seconds)

true-right : (b : Bool) → (b && true) ≡ b
true-right true = refl
true-right false = refl

and-together : (a b c : Bool) → (a && (b && c)) ≡ ((a && b) && c)
and-together true b c = refl
and-together false b c = refl

-- one part of one number, and those after it
number-first : (mark : Bool) (marks : List Bool) (m n : ℕ) (firsts seconds : List (List ℕ))
    → are_same (mark ∷ marks) ((m ∷ []) ∷ firsts) ((n ∷ []) ∷ seconds) ≡ ((not mark || m == n) && are_same marks firsts seconds)
number-first true marks m n firsts seconds = ap (λ same. same && are_same marks firsts seconds) (true-right (m == n))
number-first false marks m n firsts seconds = refl

-- the mark after the last number is that of the nibbles
same-with : (marks : List Bool) (firsts seconds ns ms : List ℕ) → length seconds ≡ length firsts
    → are_same marks (parts_with firsts ns) (parts_with seconds ms)
    ≡ (same_numbers marks firsts seconds && (not (get_or marks (length firsts) false) || bytes_eq ns ms))
same-with [] firsts seconds ns ms f = refl
same-with (true ∷ []) [] [] ns ms f = true-right (bytes_eq ns ms)
same-with (false ∷ []) [] [] ns ms f = refl
same-with (true ∷ next ∷ marks) [] [] ns ms f = true-right (bytes_eq ns ms)
same-with (false ∷ next ∷ marks) [] [] ns ms f = refl
same-with (mark ∷ marks) [] (n ∷ seconds) ns ms f = absurd (omega (arith, f))
same-with (mark ∷ marks) (m ∷ firsts) [] ns ms f = absurd (omega (arith, f))
same-with (mark ∷ marks) (m ∷ firsts) (n ∷ seconds) ns ms f =
    number-first mark marks m n (parts_with firsts ns) (parts_with seconds ms)
    ∙ ap (λ same. (not mark || m == n) && same) (same-with marks firsts seconds ns ms (omega (arith, f)))
    ∙ and-together (not mark || m == n) (same_numbers marks firsts seconds) (not (get_or marks (length firsts) false) || bytes_eq ns ms)

-- the parts of two states are the same where their numbers are, and the nibbles if they are marked
pub parts-decided : (marks : List Bool) (d c : Data) (numbers shown : Bool) → length d.flags ≡ 6 → length c.flags ≡ 6
    → numbers ≡ same_numbers marks (content_numbers d) (content_numbers c) → shown ≡ get_or marks 12 false
    → (numbers && (not shown || bytes_eq d.nibbles c.nibbles)) ≡ same_parts marks d c
parts-decided marks d c numbers shown here there numbers_are shown_is =
    let firsts : length (content_numbers d) ≡ 12 = omega (arith, here, length-map d.flags bit_number) in
    let seconds : length (content_numbers c) ≡ 12 = omega (arith, there, length-map c.flags bit_number) in
    ap (λ b. b && (not shown || bytes_eq d.nibbles c.nibbles)) numbers_are
    ∙ ap (λ b. same_numbers marks (content_numbers d) (content_numbers c) && (not b || bytes_eq d.nibbles c.nibbles)) (shown_is ∙ ap (λ k. get_or marks k false) (sym firsts))
    ∙ sym (same-with marks (content_numbers d) (content_numbers c) d.nibbles c.nibbles (omega (arith, firsts, seconds)))

-- numbers from a place on
numbers-from : (marks : List Bool) (firsts seconds : List ℕ) (i : ℕ) → i < length firsts → i < length seconds
    → same_numbers (drop i marks) (drop i firsts) (drop i seconds)
    ≡ (same_at marks firsts seconds i && same_numbers (drop (suc i) marks) (drop (suc i) firsts) (drop (suc i) seconds))
numbers-from [] firsts seconds i hf hs = ap (λ (left : List Bool). same_numbers left (drop i firsts) (drop i seconds)) (drop-nil i)
numbers-from (mark ∷ marks) (m ∷ firsts) (n ∷ seconds) zero hf hs = refl
numbers-from (mark ∷ marks) (m ∷ firsts) (n ∷ seconds) (suc i) hf hs = numbers-from marks firsts seconds i (omega (arith, hf)) (omega (arith, hs))
numbers-from (mark ∷ marks) [] seconds i hf hs = absurd (omega (arith, hf))
numbers-from (mark ∷ marks) (m ∷ firsts) [] i hf hs = absurd (omega (arith, hs))

-- where the numbers at a place are the same, those after it decide
pub same-left : (marks : List Bool) (firsts seconds : List ℕ) (i : ℕ) (same whole : Bool) → i < length firsts → i < length seconds
    → same ≡ same_at marks firsts seconds i → same ≡ true → same_numbers (drop i marks) (drop i firsts) (drop i seconds) ≡ whole
    → same_numbers (drop (i + 1) marks) (drop (i + 1) firsts) (drop (i + 1) seconds) ≡ whole
same-left marks firsts seconds i same whole hf hs e is h =
    rw add-one (ap (λ b. b && same_numbers (drop (suc i) marks) (drop (suc i) firsts) (drop (suc i) seconds)) (sym is ∙ e) ∙ sym (numbers-from marks firsts seconds i hf hs) ∙ h)

-- where they are not, all is decided
pub same-stopped : (marks : List Bool) (firsts seconds : List ℕ) (i : ℕ) (same whole : Bool) → i < length firsts → i < length seconds
    → same ≡ same_at marks firsts seconds i → same ≡ false → same_numbers (drop i marks) (drop i firsts) (drop i seconds) ≡ whole → false ≡ whole
same-stopped marks firsts seconds i same whole hf hs e is h =
    ap (λ b. b && same_numbers (drop (suc i) marks) (drop (suc i) firsts) (drop (suc i) seconds)) (sym is ∙ e) ∙ sym (numbers-from marks firsts seconds i hf hs) ∙ h

none-left : (marks : List Bool) (seconds : List ℕ) → same_numbers marks [] seconds ≡ true
none-left [] seconds = refl
none-left (mark ∷ marks) seconds = refl

-- after the last number
pub same-at-end : (marks : List Bool) (firsts seconds : List ℕ) (i : ℕ) → length firsts ≤ i → same_numbers (drop i marks) (drop i firsts) (drop i seconds) ≡ true
same-at-end marks firsts seconds i h = ap (λ left. same_numbers (drop i marks) left (drop i seconds)) (drop_all i firsts h) ∙ none-left (drop i marks) (drop i seconds)
