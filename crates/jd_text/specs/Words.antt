-- The words of a line, which stand between blanks, tabs and CR, and texts as lines of words.
use Rattle.std.specs.Prelude.{ℕ, Bool, true, false, ◌&&◌, ◌||◌, ◌==◌, nat_eq, List, [], ◌∷◌, ◌++◌, map, flat_map}
use Rattle.std.specs.List.{filter, join_with_byte}
use Rattle.std.specs.Cmp.Lexicographic.{pointwise}
use Rattle.jd_text.specs.Lines.{pieces, lines_of}

abbrev pub is_separator : ℕ → Bool
is_separator b = b == 32 || b == 9 || b == 13

abbrev pub is_word : List ℕ → Bool
is_word [] = false
is_word (b ∷ bytes) = true

abbrev pub words_of : List ℕ → List (List ℕ)
words_of line = filter is_word (pieces is_separator line)

-- whether a word is this text
abbrev pub is_text : List ℕ → List ℕ → Bool
is_text text word = pointwise nat_eq text word

-- whether words are these texts
abbrev pub are_texts : List (List ℕ) → List (List ℕ) → Bool
are_texts [] [] = true
are_texts (text ∷ texts) (word ∷ words) = is_text text word && are_texts texts words
are_texts _ _ = false

-- the words of each line
abbrev pub word_lines : List ℕ → List (List (List ℕ))
word_lines text = map words_of (lines_of text)

-- a line of words, with one blank between two, and a text of such lines
abbrev pub line : List (List ℕ) → List ℕ
line words = join_with_byte 32 words ++ 10 ∷ []

abbrev pub written : List (List (List ℕ)) → List ℕ
written lines = flat_map line lines
