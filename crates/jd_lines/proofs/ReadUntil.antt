-- A reader of lines over a source, one line more.
use Rattle.std.proofs.Common.{◌≡◌, ℕ, suc, ◌+◌, ◌≤◌, Bool, true, false, List, [], ◌∷◌, ◌++◌, length, drop, map, refl, sym, ap, ◌∙◌, subst, arith, append_assoc, append-nil, length-append, add-one}
use Rattle.std.specs.Prelude.{Option, Result, Ok, Err}
use Rattle.std.proofs.Math.Seq.{drop-append_seam}
use Rattle.std.proofs.lemmas.List.{map-append}
use Rattle.jd_text.specs.Lines.{lines_of}
use Rattle.jd_text.specs.Words.{words_of, word_lines}
use Rattle.jd_text.specs.Readings.{read_until}
use Rattle.jd_lines.specs.SourceLines.{LineState, Advances, AreTaken, AreAll}
use Rattle.jd_lines.specs.Until.{IsReadTo, IsReadUntil}
use Rattle.jd_lines.proofs.LinesTaken.{taken-none, taken-more, taken-all, taken-few}

-- so many lines were taken, and those that follow give what all give
pub record ReadsOn {S C : Type 0} (whole : S → Bool) (missing : C) (with_line : S → List (List ℕ) → Result S C) (start : S) (old now : LineState) (before left : Option (List ℕ)) (count : ℕ) (s : S) : Type 0 where
  pub lines : List (List ℕ)
  pub taken : AreTaken old now before left lines
  pub counted : length lines ≡ count
  pub same : (rest : List (List (List ℕ))) → read_until whole missing with_line 1 start (map words_of lines ++ rest) ≡ read_until whole missing with_line (count + 1) s rest

module _ {S C : Type 0} (whole : S → Bool) (missing : C) (with_line : S → List (List ℕ) → Result S C) (start : S) where
  module _ (number : ℕ) (s : S) (words : List (List ℕ)) (lines : List (List (List ℕ))) where
    line-bad : (cause : C) → with_line s words ≡ Err cause → read_until whole missing with_line number s (words ∷ lines) ≡ Err (number, cause)
    line-bad cause said = rw (read_until, said) refl

    line-whole : (next : S) → with_line s words ≡ Ok next → whole next ≡ true → read_until whole missing with_line number s (words ∷ lines) ≡ Ok (next, number)
    line-whole next said is = rw (read_until, said, is) refl

    line-more : (next : S) → with_line s words ≡ Ok next → whole next ≡ false → read_until whole missing with_line number s (words ∷ lines) ≡ read_until whole missing with_line (suc number) next lines
    line-more next said is = rw (read_until, said, is) refl

  pub reads-first : (s : LineState) (left : Option (List ℕ)) → ReadsOn whole missing with_line start s s left left 0 start
  reads-first s left = record { lines = []; taken = taken-none s left; counted = refl; same = λ rest. refl }

  module _ (old now new : LineState) (before left after : Option (List ℕ)) (count : ℕ) (s : S) (on : ReadsOn whole missing with_line start old now before left count s) where
    pub so-few : count ≤ length old.held + old.within
    so-few = let few = taken-few old now before left on.lines on.taken in omega (arith, few, on.counted, on.taken.read.within)

    module _ (advances : Advances now new left after true) where
      taken : AreTaken old new before after (on.lines ++ new.line ∷ [])
      taken = taken-more old now new before left after on.lines on.taken advances

      counted : length (on.lines ++ new.line ∷ []) ≡ count + 1
      counted = length-append on.lines (new.line ∷ []) ∙ ap (λ n. n + 1) on.counted

      -- one line more is within the bytes
      pub one-more-few : count + 1 ≤ length old.held + old.within
      one-more-few =
          let few = taken-few old new before after (on.lines ++ new.line ∷ []) taken in
          omega (arith, few, counted, taken.read.within)

      same : (rest : List (List (List ℕ))) → read_until whole missing with_line 1 start (map words_of (on.lines ++ new.line ∷ []) ++ rest)
          ≡ read_until whole missing with_line (count + 1) s (words_of new.line ∷ rest)
      same rest =
          ap (λ ls. read_until whole missing with_line 1 start (ls ++ rest)) (map-append words_of on.lines (new.line ∷ []))
          ∙ ap (read_until whole missing with_line 1 start) (append_assoc (map words_of on.lines) (words_of new.line ∷ []) rest)
          ∙ on.same (words_of new.line ∷ rest)

      -- of a text that begins with these lines
      said : (text rest : List ℕ) → lines_of text ≡ (on.lines ++ new.line ∷ []) ++ lines_of rest
          → read_until whole missing with_line 1 start (word_lines text) ≡ read_until whole missing with_line (count + 1) s (words_of new.line ∷ word_lines rest)
      said text rest are =
          ap (λ ls. read_until whole missing with_line 1 start (map words_of ls)) are
          ∙ ap (read_until whole missing with_line 1 start) (map-append words_of (on.lines ++ new.line ∷ []) (lines_of rest))
          ∙ same (word_lines rest)

      after-lines : (text rest : List ℕ) → lines_of text ≡ (on.lines ++ new.line ∷ []) ++ lines_of rest → drop (count + 1) (lines_of text) ≡ lines_of rest
      after-lines text rest are =
          ap (drop (count + 1)) are ∙ ap (λ n. drop n ((on.lines ++ new.line ∷ []) ++ lines_of rest)) (sym counted)
          ∙ drop-append_seam (on.lines ++ new.line ∷ []) (lines_of rest)

      -- the line is bad
      pub read-bad : (end : S) (cause : C) → with_line s (words_of new.line) ≡ Err cause → IsReadUntil whole missing with_line start old new before after (Err (count + 1, cause)) end
      read-bad end cause is = record {
        bytes = taken.bytes;
        read = taken.read;
        few = tt;
        says = λ more h.
            let text = old.held ++ (taken.bytes ++ more) in
            said text (new.held ++ more) (taken.are more h) ∙ line-bad (count + 1) s (words_of new.line) (word_lines (new.held ++ more)) cause is;
      }

      module _ (next : S) (is : with_line s (words_of new.line) ≡ Ok next) where
        -- the line makes it whole
        pub read-whole : whole next ≡ true → IsReadUntil whole missing with_line start old new before after (Ok (count + 1)) next
        read-whole h = record {
          bytes = taken.bytes;
          read = taken.read;
          few = let few = taken-few old new before after (on.lines ++ new.line ∷ []) taken in omega (arith, few, counted);
          says = λ more k.
              let text = old.held ++ (taken.bytes ++ more) in (
                said text (new.held ++ more) (taken.are more k) ∙ line-whole (count + 1) s (words_of new.line) (word_lines (new.held ++ more)) next is h,
                after-lines text (new.held ++ more) (taken.are more k),
              );
        }

        -- it doesn't
        pub reads-on : whole next ≡ false → ReadsOn whole missing with_line start old new before after (count + 1) next
        reads-on h = record {
          lines = on.lines ++ new.line ∷ [];
          taken = taken;
          counted = counted;
          same = λ rest. same rest ∙ line-more (count + 1) s (words_of new.line) rest next is h ∙ ap (λ n. read_until whole missing with_line n next rest) (sym (add-one (count + 1)));
        }

    -- there is no line more
    pub read-missing : (end : S) → Advances now new left after false → IsReadUntil whole missing with_line start old new before after (Err (count + 1, missing)) end
    read-missing end advances =
        let all = taken-all old now new before left after on.lines on.taken advances in
        record {
          bytes = all.bytes;
          read = all.read;
          few = tt;
          says = λ more h.
              ap (λ m. read_until whole missing with_line 1 start (word_lines (old.held ++ (all.bytes ++ m)))) (h all.ended)
              ∙ ap (λ t. read_until whole missing with_line 1 start (word_lines (old.held ++ t))) (append-nil all.bytes)
              ∙ ap (λ ls. read_until whole missing with_line 1 start (map words_of ls)) all.are
              ∙ ap (read_until whole missing with_line 1 start) (sym (append-nil (map words_of on.lines)))
              ∙ on.same [];
        }
