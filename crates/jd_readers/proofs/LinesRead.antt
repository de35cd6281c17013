-- A text read up to the line that makes it whole, one line more.
use Rattle.std.proofs.Common.{◌≡◌, ℕ, suc, ◌+◌, ◌≤◌, Bool, true, false, List, ◌∷◌, length, take, drop, map, refl, sym, ap, ◌∙◌, subst, arith, add-one}
use Rattle.std.specs.Prelude.{Result, Ok}
use Rattle.jd_text.specs.Lines.{lines_of, bytes_of_lines}
use Rattle.jd_text.specs.Words.{words_of, word_lines}
use Rattle.jd_text.specs.Places.{IsLineTo}
use Rattle.jd_text.proofs.LineFronts.{length-lines_of-front}
use Rattle.jd_text.specs.Readings.{read_until}
use Rattle.jd_readers.specs.Ends.{IsReadTo}

-- so many lines stand before a place, and the lines from there on give what all give
pub record ReadsOn {S C : Type 0} (whole : S → Bool) (missing : C) (with_line : S → List (List ℕ) → Result S C) (start : S) (text : List ℕ) (at count : ℕ) (s : S) : Type 0 where
  pub within : at ≤ length text
  pub few : count ≤ at
  pub same : read_until whole missing with_line (count + 1) s (word_lines (drop at text)) ≡ read_until whole missing with_line 1 start (word_lines text)
  pub size : (n : ℕ) → bytes_of_lines (count + n) text ≡ at + bytes_of_lines n (drop at text)
  pub counted : count + length (lines_of (drop at text)) ≡ length (lines_of text)

module _ {S C : Type 0} (whole : S → Bool) (missing : C) (with_line : S → List (List ℕ) → Result S C) (start : S) where
  module _ (number : ℕ) (s next : S) (words : List (List ℕ)) (lines : List (List (List ℕ))) (taken : with_line s words ≡ Ok next) where
    line-whole : whole next ≡ true → read_until whole missing with_line number s (words ∷ lines) ≡ Ok (next, number)
    line-whole is = rw (read_until, taken, is) refl

    line-more : whole next ≡ false → read_until whole missing with_line number s (words ∷ lines) ≡ read_until whole missing with_line (suc number) next lines
    line-more is = rw (read_until, taken, is) refl

  module _ (text line : List ℕ) (at next count : ℕ) (s after : S) (on : ReadsOn whole missing with_line start text at count s) (to : IsLineTo text at line next) (taken : with_line s (words_of line) ≡ Ok after) where
    lines-are : read_until whole missing with_line (count + 1) s (words_of line ∷ word_lines (drop next text)) ≡ read_until whole missing with_line 1 start (word_lines text)
    lines-are = sym (ap (λ lines. read_until whole missing with_line (count + 1) s (map words_of lines)) to.lines) ∙ on.same

    size-more : (n : ℕ) → bytes_of_lines (count + suc n) text ≡ next + bytes_of_lines n (drop next text)
    size-more n = omega (arith, on.size (suc n), to.size n, to.after)

    -- the line makes it whole
    pub read-to : whole after ≡ true → IsReadTo whole missing with_line start text after next
    read-to is =
        let one : count + suc 0 ≡ count + 1 = omega arith in
        let size : next ≡ bytes_of_lines (count + 1) text = omega (arith, size-more 0, ap (λ n. bytes_of_lines n text) one) in
        let front : count + 1 ≤ length (lines_of text) = omega (arith, on.counted, ap length to.lines) in
        record {
          lines = count + 1;
          read = sym lines-are ∙ line-whole (count + 1) s after (words_of line) (word_lines (drop next text)) taken is;
          size = size;
          counted = subst (λ end. length (lines_of (take end text)) ≡ count + 1) (sym size) (length-lines_of-front text (count + 1) front);
          within = to.within;
        }

    -- it doesn't
    pub reads-on : whole after ≡ false → ReadsOn whole missing with_line start text next (count + 1) after
    reads-on is = record {
      within = to.within;
      few = omega (arith, on.few, to.after);
      same =
          ap (λ n. read_until whole missing with_line n after (word_lines (drop next text))) (add-one (count + 1))
          ∙ sym (line-more (count + 1) s after (words_of line) (word_lines (drop next text)) taken is) ∙ lines-are;
      size = λ n. let e : count + 1 + n ≡ count + suc n = omega arith in ap (λ k. bytes_of_lines k text) e ∙ size-more n;
      counted = omega (arith, on.counted, ap length to.lines);
    }
