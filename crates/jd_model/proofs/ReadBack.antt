-- A routine that is written reads back.
use Rattle.std.proofs.Common.{map, ◌≡◌, ℕ, suc, ◌+◌, ◌<◌, ◌≤◌, ◌&&◌, Bool, true, false, not, List, [], ◌∷◌, ◌++◌, length, Option, Some, None, refl, sym, ap, ◌∙◌, arith, append_assoc, append-nil, length-append, nat_lt}
use Rattle.std.specs.Cmp.Derive.{both_true}
use Rattle.std.specs.Prelude.{Ok, Err, Result, All, ⊤}
use Rattle.std.specs.List.{list_all}
use Rattle.std.proofs.lemmas.Bool.Decides.{nat_tests}
use Rattle.std.proofs.lemmas.List.Elements.{All-head, All-tail}
use Rattle.jd_text.specs.Words.{words_of, word_lines}
use Rattle.jd_model.specs.declared.causes.AsmCause.{AsmCause}
use Rattle.jd_model.specs.declared.causes.AsmCause.TheVariants.{UnknownWord, BadOperand, TooManyLines, FloatKey}
use Rattle.jd_text.specs.Readings.{read_lines}
use Rattle.jd_model.specs.Assembly.{text_of_code, code_of_words, begins_text, is_float_key, with_line, IsRoutine, assembled, listing, code_text, codes_text, code_of_word, with_codes, routine_of_codes}
use Rattle.jd_text.proofs.Tests.{left-part, right-part, passes_from, passes_at, is_found, found-is}
use Rattle.jd_text.proofs.WrittenLines.{has_no_end, line-first, is_proper, word-lines-line, read-good}

-- ---- each code's line

-- whether words are a line of a code
abbrev pub reads_back : List (List ℕ) → ℕ → Bool
reads_back [] code = false
reads_back (word ∷ words) code = not (is_float_key word) && (begins_text word && is_found (code_of_words (word ∷ words)) code)

-- whether a code's line is a line, and the code's
abbrev is_good : ℕ → Bool
is_good code = has_no_end (text_of_code code) && reads_back (words_of (text_of_code code)) code

-- all 225, in three parts
good_1 : passes_from is_good 0 75 ≡ true
good_1 = refl

good_2 : passes_from is_good 75 75 ≡ true
good_2 = refl

good_3 : passes_from is_good 150 75 ≡ true
good_3 = refl

-- each code's line is good
code-good : (code : ℕ) → code < 225 → is_good code ≡ true
code-good code h = by_place (nat_lt code 75) (nat_lt code 150) refl refl
  where
    by_place : (a b : Bool) → nat_lt code 75 ≡ a → nat_lt code 150 ≡ b → is_good code ≡ true
    by_place true b e f = passes_at is_good 0 75 code good_1 (omega arith) (grind (arith, nat_tests, e))
    by_place false true e f = passes_at is_good 75 75 code good_2 (grind (arith, nat_tests, e)) (grind (arith, nat_tests, f))
    by_place false false e f = passes_at is_good 150 75 code good_3 (grind (arith, nat_tests, f)) (omega (arith, h))

-- the words of a code's line
pub code-words : (code : ℕ) → code < 225 → reads_back (words_of (text_of_code code)) code ≡ true
code-words code h = right-part (has_no_end (text_of_code code)) (reads_back (words_of (text_of_code code)) code) (code-good code h)

-- what a line gives by its first word, its operation and the room
abbrev judged : List ℕ → Bool → Bool → Option ℕ → Result (List ℕ) AsmCause
judged routine float begun code = elim float [
  | true ↦ Err FloatKey
  | false ↦ (elim begun [
    | true ↦ (elim code [ None ↦ Err BadOperand | Some c ↦ (elim (nat_lt (length routine) 203) [ true ↦ Ok (routine ++ c ∷ []) | false ↦ Err TooManyLines ]) ])
    | false ↦ Err UnknownWord
  ])
]

-- a good line gives the routine with its code
judged-good : (routine : List ℕ) (float begun : Bool) (found : Option ℕ) (code : ℕ) → (not float && (begun && is_found found code)) ≡ true
    → nat_lt (length routine) 203 ≡ true → judged routine float begun found ≡ Ok (routine ++ code ∷ [])
judged-good routine true begun found code h room = absurd (grind arith)
judged-good routine false false found code h room = absurd (grind arith)
judged-good routine false true found code h room = rw (found-is found code h, room, judged)

-- a line of a code adds the code
pub with_line-good : (routine : List ℕ) (words : List (List ℕ)) (code : ℕ) → reads_back words code ≡ true → nat_lt (length routine) 203 ≡ true
    → with_line routine words ≡ Ok (routine ++ code ∷ [])
with_line-good routine [] code h room = absurd (grind arith)
with_line-good routine (word ∷ words) code h room = judged-good routine (is_float_key word) (begins_text word) (code_of_words (word ∷ words)) code h room

-- ---- all lines

abbrev pub AreCodes : List ℕ → Type 0
AreCodes routine = All (λ code. code < 225) routine

-- the lines of a routine add it
read-listing : (number : ℕ) (before routine : List ℕ) → AreCodes routine → length before + length routine ≤ 203
    → read_lines with_line number before (word_lines (listing routine)) ≡ Ok (before ++ routine)
read-listing number before [] codes_of room = ap (λ r. Ok r) (sym (append-nil before))
read-listing number before (code ∷ routine) codes_of room =
    let small : code < 225 = All-head (λ c. c < 225) code routine codes_of in
    let text = text_of_code code in
    let no_end : has_no_end text ≡ true = left-part (has_no_end text) (reads_back (words_of text) code) (code-good code small) in
    let free : nat_lt (length before) 203 ≡ true = grind (arith, nat_tests, room) in
    ap (λ t. read_lines with_line number before (word_lines t)) (append_assoc text (10 ∷ []) (listing routine))
    ∙ ap (λ ls. read_lines with_line number before (map words_of ls)) (line-first text (listing routine) no_end)
    ∙ read-good with_line number before (before ++ code ∷ []) (words_of text) (word_lines (listing routine)) (with_line-good before (words_of text) code (code-words code small) free)
    ∙ read-listing (suc number) (before ++ code ∷ []) routine (All-tail (λ c. c < 225) code routine codes_of) (omega (arith, room, length-append before (code ∷ [])))
    ∙ ap (λ r. Ok r) (append_assoc before (code ∷ []) routine)

pub assembled-listing : (routine : List ℕ) → IsRoutine routine → assembled (listing routine) ≡ Ok routine
assembled-listing routine is = read-listing 1 [] routine is.codes (omega (arith, is.few))

-- ---- codes

-- a code's two digits are a word, and the code's
abbrev is_good_text : ℕ → Bool
is_good_text code = is_proper (code_text code) && is_found (code_of_word (code_text code)) code

-- each code's digits are good
text-good : (code : ℕ) → code < 225 → is_good_text code ≡ true
text-good code h =
    let all : passes_from is_good_text 0 225 ≡ true = refl in
    passes_at is_good_text 0 225 code all (omega arith) h

-- the digits of codes are proper words
texts-proper : (routine : List ℕ) → AreCodes routine → list_all is_proper (map code_text routine) ≡ true
texts-proper [] codes_of = refl
texts-proper (code ∷ routine) codes_of =
    both_true (left-part (is_proper (code_text code)) (is_found (code_of_word (code_text code)) code) (text-good code (All-head (λ c. c < 225) code routine codes_of)))
    (texts-proper routine (All-tail (λ c. c < 225) code routine codes_of))

-- what a word gives by its code and the room
abbrev taken : List ℕ → Option ℕ → Result (List ℕ) ⊤
taken routine found = elim found [
  | None ↦ Err tt
  | Some code ↦ (elim (nat_lt (length routine) 203) [ true ↦ Ok (routine ++ code ∷ []) | false ↦ Err tt ])
]

-- a good word gives the routine with its code
taken-good : (routine : List ℕ) (found : Option ℕ) (code : ℕ) → is_found found code ≡ true → nat_lt (length routine) 203 ≡ true → taken routine found ≡ Ok (routine ++ code ∷ [])
taken-good routine found code h room = rw (found-is found code h, room, taken)

-- the words after one
abbrev next_words : List (List ℕ) → Result (List ℕ) ⊤ → Result (List ℕ) ⊤
next_words words one = elim one [ Err bad ↦ Err bad | Ok more ↦ with_codes more words ]

-- the words of a routine add it
with_codes-good : (before routine : List ℕ) → AreCodes routine → length before + length routine ≤ 203
    → with_codes before (map code_text routine) ≡ Ok (before ++ routine)
with_codes-good before [] codes_of room = ap (λ r. Ok r) (sym (append-nil before))
with_codes-good before (code ∷ routine) codes_of room =
    let good = text-good code (All-head (λ c. c < 225) code routine codes_of) in
    let free : nat_lt (length before) 203 ≡ true = grind (arith, nat_tests, room) in
    ap (next_words (map code_text routine)) (taken-good before (code_of_word (code_text code)) code (right-part (is_proper (code_text code)) (is_found (code_of_word (code_text code)) code) good) free)
    ∙ with_codes-good (before ++ code ∷ []) routine (All-tail (λ c. c < 225) code routine codes_of) (omega (arith, room, length-append before (code ∷ [])))
    ∙ ap (λ r. Ok r) (append_assoc before (code ∷ []) routine)

-- what comes of the one line
abbrev last_line : Result (List ℕ) ⊤ → Result (List ℕ) (ℕ × ⊤)
last_line read = elim read [ Err bad ↦ Err (1, bad) | Ok routine ↦ Ok routine ]

pub read-codes : (routine : List ℕ) → IsRoutine routine → routine_of_codes (codes_text routine) ≡ Ok routine
read-codes routine is =
    ap (λ text. read_lines with_codes 1 [] (word_lines text)) (sym (append-nil (codes_text routine)))
    ∙ ap (read_lines with_codes 1 []) (word-lines-line (map code_text routine) [] (texts-proper routine is.codes))
    ∙ ap last_line (with_codes-good [] routine is.codes (omega (arith, is.few)))
