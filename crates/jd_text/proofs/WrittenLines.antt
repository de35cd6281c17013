-- Lines and words that are written read back, and a reading takes one good line after another.
use Rattle.std.proofs.Common.{◌≡◌, ℕ, suc, ◌&&◌, ◌==◌, Bool, true, false, not, List, [], ◌∷◌, ◌++◌, map, refl, ap, ◌∙◌, append_assoc}
use Rattle.std.specs.Prelude.{Ok, Err, Result}
use Rattle.std.specs.List.{filter, list_all, join_with_byte}
use Rattle.std.specs.Cmp.Derive.{both_true}
use Rattle.std.proofs.lemmas.Bool.{false≢true}
use Rattle.std.proofs.lemmas.List.Folds.{list_all-append}
use Rattle.jd_text.specs.Lines.{put, pieces, lines_of}
use Rattle.jd_text.specs.Words.{is_separator, is_word, words_of, word_lines, line, written}
use Rattle.jd_text.specs.Readings.{read_lines, read_until}
use Rattle.jd_text.proofs.Tests.{left-part, right-part, is_false}

-- ---- pieces

-- whether no byte ends a piece
abbrev pub has_none : (ℕ → Bool) → List ℕ → Bool
has_none ends text = list_all (λ b. not (ends b)) text

-- a text without an end before an end is a piece
piece-first : (ends : ℕ → Bool) (stop : ℕ) (text rest : List ℕ) → ends stop ≡ true → has_none ends text ≡ true
    → pieces ends (text ++ stop ∷ rest) ≡ text ∷ pieces ends rest
piece-first ends stop [] rest e h = ap (λ t. put t stop (pieces ends rest)) e
piece-first ends stop (b ∷ text) rest e h =
    ap (put (ends b) b) (piece-first ends stop text rest e (right-part (not (ends b)) (has_none ends text) h))
    ∙ ap (λ t. put t b (text ∷ pieces ends rest)) (is_false (ends b) (left-part (not (ends b)) (has_none ends text) h))

-- the last piece, if it has a byte
piece-last : (ends : ℕ → Bool) (b : ℕ) (text : List ℕ) → has_none ends (b ∷ text) ≡ true → pieces ends (b ∷ text) ≡ (b ∷ text) ∷ []
piece-last ends b [] h = ap (λ t. put t b []) (is_false (ends b) (left-part (not (ends b)) true h))
piece-last ends b (c ∷ text) h =
    ap (put (ends b) b) (piece-last ends c text (right-part (not (ends b)) (has_none ends (c ∷ text)) h))
    ∙ ap (λ t. put t b ((c ∷ text) ∷ [])) (is_false (ends b) (left-part (not (ends b)) (has_none ends (c ∷ text)) h))

-- ---- lines

-- whether a text has no LF
abbrev pub has_no_end : List ℕ → Bool
has_no_end text = has_none (λ b. b == 10) text

-- a text without LF before an LF is a line
pub line-first : (text rest : List ℕ) → has_no_end text ≡ true → lines_of (text ++ 10 ∷ rest) ≡ text ∷ lines_of rest
line-first text rest h = piece-first (λ b. b == 10) 10 text rest refl h

-- ---- words

-- no separator and no LF
abbrev pub is_letter : ℕ → Bool
is_letter b = not (is_separator b) && not (b == 10)

-- whether a word is not empty and has letters alone
abbrev pub is_proper : List ℕ → Bool
is_proper word = is_word word && list_all is_letter word

-- what each letter is
letters-none : (ends : ℕ → Bool) → ((b : ℕ) → is_letter b ≡ true → not (ends b) ≡ true) → (word : List ℕ) → list_all is_letter word ≡ true → has_none ends word ≡ true
letters-none ends apart [] h = refl
letters-none ends apart (b ∷ word) h =
    both_true (apart b (left-part (is_letter b) (list_all is_letter word) h)) (letters-none ends apart word (right-part (is_letter b) (list_all is_letter word) h))

-- letters are no LF
letters-no-end : (word : List ℕ) → list_all is_letter word ≡ true → has_no_end word ≡ true
letters-no-end word h = letters-none (λ b. b == 10) (λ b. right-part (not (is_separator b)) (not (b == 10))) word h

-- letters are no separators
letters-no-separator : (word : List ℕ) → list_all is_letter word ≡ true → has_none is_separator word ≡ true
letters-no-separator word h = letters-none is_separator (λ b. left-part (not (is_separator b)) (not (b == 10))) word h

-- words that are written with a blank between two are those words
words-joined : (words : List (List ℕ)) → list_all is_proper words ≡ true → words_of (join_with_byte 32 words) ≡ words
words-joined [] h = refl
words-joined ([] ∷ words) h = absurd (false≢true h)
words-joined ((b ∷ word) ∷ []) h =
    ap (filter is_word) (piece-last is_separator b word (letters-no-separator (b ∷ word) (left-part (list_all is_letter (b ∷ word)) true h)))
words-joined ((b ∷ word) ∷ next ∷ words) h =
    let letters : list_all is_letter (b ∷ word) ≡ true = left-part (list_all is_letter (b ∷ word)) (list_all is_proper (next ∷ words)) h in
    ap (filter is_word) (piece-first is_separator 32 (b ∷ word) (join_with_byte 32 (next ∷ words)) refl (letters-no-separator (b ∷ word) letters))
    ∙ ap {B = List (List ℕ)} (λ r. (b ∷ word) ∷ r) (words-joined (next ∷ words) (right-part (list_all is_letter (b ∷ word)) (list_all is_proper (next ∷ words)) h))

-- the letters of a proper word
letters_of : (word : List ℕ) → is_proper word ≡ true → list_all is_letter word ≡ true
letters_of word h = right-part (is_word word) (list_all is_letter word) h

-- words that are joined have no LF
joined-no-end : (words : List (List ℕ)) → list_all is_proper words ≡ true → has_no_end (join_with_byte 32 words) ≡ true
joined-no-end [] h = refl
joined-no-end (word ∷ []) h = letters-no-end word (letters_of word (left-part (is_proper word) true h))
joined-no-end (word ∷ next ∷ words) h =
    list_all-append (λ b. not (b == 10)) word (32 ∷ join_with_byte 32 (next ∷ words))
    ∙ both_true (letters-no-end word (letters_of word (left-part (is_proper word) (list_all is_proper (next ∷ words)) h)))
    (joined-no-end (next ∷ words) (right-part (is_proper word) (list_all is_proper (next ∷ words)) h))

-- ---- lines of words

-- a line of proper words that is written before a text is its first line
pub word-lines-line : (words : List (List ℕ)) (rest : List ℕ) → list_all is_proper words ≡ true → word_lines (line words ++ rest) ≡ words ∷ word_lines rest
word-lines-line words rest h =
    ap word_lines (append_assoc (join_with_byte 32 words) (10 ∷ []) rest)
    ∙ ap (map words_of) (line-first (join_with_byte 32 words) rest (joined-no-end words h))
    ∙ ap (λ w. w ∷ word_lines rest) (words-joined words h)

-- whether each word of each line is proper
abbrev pub are_proper : List (List (List ℕ)) → Bool
are_proper lines = list_all (list_all is_proper) lines

-- lines of proper words that are written are those lines
pub word-lines-written : (lines : List (List (List ℕ))) → are_proper lines ≡ true → word_lines (written lines) ≡ lines
word-lines-written [] h = refl
word-lines-written (words ∷ lines) h =
    word-lines-line words (written lines) (left-part (list_all is_proper words) (are_proper lines) h)
    ∙ ap {B = List (List (List ℕ))} (λ r. words ∷ r) (word-lines-written lines (right-part (list_all is_proper words) (are_proper lines) h))

-- ---- reading

-- a good line leaves the reading after it
pub read-good : {S C : Type 0} (take_line : S → List (List ℕ) → Result S C) (number : ℕ) (s next : S) (words : List (List ℕ)) (lines : List (List (List ℕ)))
    → take_line s words ≡ Ok next → read_lines take_line number s (words ∷ lines) ≡ read_lines take_line (suc number) next lines
read-good {S} {C} take_line number s next words lines taken = ap after_line taken
  where
    after_line : Result S C → Result S (ℕ × C)
    after_line r = elim r [ Err cause ↦ Err (number, cause) | Ok next ↦ read_lines take_line (suc number) next lines ]

-- the same of a reading up to the line that makes it whole, where this line doesn't
pub until-good : {S C : Type 0} (whole : S → Bool) (missing : C) (take_line : S → List (List ℕ) → Result S C) (number : ℕ) (s next : S) (words : List (List ℕ)) (lines : List (List (List ℕ)))
    → take_line s words ≡ Ok next → whole next ≡ false → read_until whole missing take_line number s (words ∷ lines) ≡ read_until whole missing take_line (suc number) next lines
until-good {S} {C} whole missing take_line number s next words lines taken open_still = ap after_line taken ∙ ap (after_test next) open_still
  where
    after_test : S → Bool → Result (S × ℕ) (ℕ × C)
    after_test next done = elim done [ true ↦ Ok (next, number) | false ↦ read_until whole missing take_line (suc number) next lines ]

    after_line : Result S C → Result (S × ℕ) (ℕ × C)
    after_line r = elim r [ Err cause ↦ Err (number, cause) | Ok next ↦ after_test next (whole next) ]
