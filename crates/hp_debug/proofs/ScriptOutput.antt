-- The text of a script, line by line, and how far it is written.
use Rattle.std.proofs.Common.{◌≡◌, ℕ, ◌+◌, ◌≤◌, Bool, true, false, List, [], ◌∷◌, ◌++◌, length, take, drop, map, Option, Some, None, Result, Ok, refl, ap, sym, subst, ◌∙◌, append_assoc, arith}
use Rattle.std.proofs.lemmas.List.{append-nil, take-append-le, drop_all}
use Rattle.std.proofs.Math.Seq.{take-length, take-append-add}
use Rattle.std.specs.Io.KnownBytes.{Appends}
use Rattle.std.proofs.KnownBytes.{Appends-nil, Appends-trans}
use Rattle.jd_text.specs.Words.{words_of, word_lines}
use Rattle.jd_text.specs.Places.{IsLineTo}
use Rattle.jd_text.specs.Readings.{read_lines}
use Rattle.hp_debug.specs.Debuggers.{Debugger}
use Rattle.hp_debug.specs.ScriptLines.{Line, script_line}
use Rattle.hp_debug.specs.Scripts.{Output, output, line_output, text_of_line, text_from, checked_line, text_or_fault, initial_debugger}
use Rattle.hp_debug.specs.Outcomes.{WroteAll, WrotePart}

-- some of the text is written, and the lines from a place on give the rest
pub record Progress (start d : Debugger) (bytes : List ℕ) (at : ℕ) (first : Bool) (written0 written : Option (List ℕ)) : Type 0 where
  pub wrote : List ℕ
  pub put : Appends written0 written wrote
  pub rest : text_from true start (word_lines bytes) ≡ wrote ++ text_from first d (word_lines (drop at bytes))

-- the lines from a place on, by the next of them
next_line_of : (bytes line : List ℕ) (at to : ℕ) → IsLineTo bytes at line to → word_lines (drop at bytes) ≡ words_of line ∷ word_lines (drop to bytes)
next_line_of bytes line at to found = ap (λ (lines : List (List ℕ)). map words_of lines) found.lines

text_of_next : (first : Bool) (d : Debugger) (bytes line : List ℕ) (at to : ℕ) (parsed : Option Line) → IsLineTo bytes at line to → parsed ≡ script_line first (words_of line)
    → text_from first d (word_lines (drop at bytes)) ≡ text_of_line parsed d (λ next. text_from false next (word_lines (drop to bytes)))
text_of_next first d bytes line at to parsed found parsed_is =
    ap (λ (lines : List (List (List ℕ))). text_from first d lines) (next_line_of bytes line at to found)
    ∙ ap (λ (o : Option Line). text_of_line o d (λ next. text_from false next (word_lines (drop to bytes)))) (sym parsed_is)

text_with_line : (first : Bool) (d next : Debugger) (bytes line text : List ℕ) (at to : ℕ) (parsed : Line) → IsLineTo bytes at line to
    → Some parsed ≡ script_line first (words_of line) → output next text ≡ line_output parsed d
    → text_from first d (word_lines (drop at bytes)) ≡ (text ++ 10 ∷ []) ++ text_from false next (word_lines (drop to bytes))
text_with_line first d next bytes line text at to parsed found parsed_is output_is =
    text_of_next first d bytes line at to (Some parsed) found parsed_is
    ∙ ap (λ (a : Output). a.text ++ text_from false a.debugger (word_lines (drop to bytes))) (sym output_is)

-- ---- as far as it is written

module _ (start d : Debugger) (bytes : List ℕ) (at : ℕ) (first : Bool) (w0 w1 : Option (List ℕ)) (far : Progress start d bytes at first w0 w1) where
  -- nothing more is due
  pub all-written : text_from first d (word_lines (drop at bytes)) ≡ [] → Appends w0 w1 (text_from true start (word_lines bytes))
  all-written over =
      subst (Appends w0 w1) (sym (far.rest ∙ ap (λ (t : List ℕ). far.wrote ++ t) over ∙ append-nil far.wrote)) far.put

  pub all-taken : text_from first d (word_lines (drop at bytes)) ≡ [] → (n : ℕ) × Appends w0 w1 (take n (text_from true start (word_lines bytes)))
  all-taken over =
      let whole = text_from true start (word_lines bytes) in
      (length whole, subst (Appends w0 w1) (sym (take-length whole)) (all-written over))

  -- a line more
  pub line-written : (next : Debugger) (line text piece : List ℕ) (to : ℕ) (parsed : Line) (w2 : Option (List ℕ)) → IsLineTo bytes at line to
      → Some parsed ≡ script_line first (words_of line) → output next text ≡ line_output parsed d → piece ≡ text ++ 10 ∷ [] → Appends w1 w2 piece
      → Progress start next bytes to false w0 w2
  line-written next line text piece to parsed w2 found parsed_is output_is piece_is put =
      let after = text_from false next (word_lines (drop to bytes)) in
      let due : text_from first d (word_lines (drop at bytes)) ≡ piece ++ after =
      text_with_line first d next bytes line text at to parsed found parsed_is output_is ∙ ap (λ (p : List ℕ). p ++ after) (sym piece_is) in
      record {
        wrote = far.wrote ++ piece;
        put = Appends-trans w0 w1 w2 far.wrote piece far.put put;
        rest = far.rest ∙ ap (λ (t : List ℕ). far.wrote ++ t) due ∙ sym (append_assoc far.wrote piece after);
      }

  -- a front of a line
  pub line-cut : (next : Debugger) (line text piece : List ℕ) (to : ℕ) (parsed : Line) (w2 : Option (List ℕ)) → IsLineTo bytes at line to
      → Some parsed ≡ script_line first (words_of line) → output next text ≡ line_output parsed d → piece ≡ text ++ 10 ∷ []
      → ((n : ℕ) × (n ≤ length piece) × Appends w1 w2 (take n piece))
      → (n : ℕ) × Appends w0 w2 (take n (text_from true start (word_lines bytes)))
  line-cut next line text piece to parsed w2 found parsed_is output_is piece_is (n, within, put) =
      let after = text_from false next (word_lines (drop to bytes)) in
      let due : text_from first d (word_lines (drop at bytes)) ≡ piece ++ after =
      text_with_line first d next bytes line text at to parsed found parsed_is output_is ∙ ap (λ (p : List ℕ). p ++ after) (sym piece_is) in
      let whole : text_from true start (word_lines bytes) ≡ far.wrote ++ (piece ++ after) = far.rest ∙ ap (λ (t : List ℕ). far.wrote ++ t) due in
      let front : take (length far.wrote + n) (text_from true start (word_lines bytes)) ≡ far.wrote ++ take n piece =
      ap (λ (t : List ℕ). take (length far.wrote + n) t) whole ∙ take-append-add far.wrote (piece ++ after) n
      ∙ ap (λ (t : List ℕ). far.wrote ++ t) (take-append-le n piece after within) in
      (length far.wrote + n, subst (Appends w0 w2) (sym front) (Appends-trans w0 w1 w2 far.wrote (take n piece) far.put put))

-- no line is left
pub none_left : (first : Bool) (d : Debugger) (bytes : List ℕ) (at : ℕ) → at ≡ length bytes → text_from first d (word_lines (drop at bytes)) ≡ []
none_left first d bytes at is =
    ap (λ (rest : List ℕ). text_from first d (word_lines rest)) (ap (λ k. drop k bytes) is ∙ drop_all (length bytes) bytes (omega arith))

-- the next line is none of a script
pub ends_here : (first : Bool) (d : Debugger) (bytes line : List ℕ) (at to : ℕ) → IsLineTo bytes at line to → None ≡ script_line first (words_of line)
    → text_from first d (word_lines (drop at bytes)) ≡ []
ends_here first d bytes line at to found none = text_of_next first d bytes line at to None found none

-- nothing is written yet
pub nothing-written : (d : Debugger) (bytes : List ℕ) (w : Option (List ℕ)) → Progress d d bytes 0 true w w
nothing-written d bytes w = record { wrote = []; put = Appends-nil w; rest = refl }

-- ---- the whole

pub wrote-all : (bytes : List ℕ) (d : Debugger) (state : Bool) (w0 w1 : Option (List ℕ)) → read_lines checked_line 1 true (word_lines bytes) ≡ Ok state → d ≡ initial_debugger
    → Appends w0 w1 (text_from true d (word_lines bytes)) → WroteAll bytes w0 w1
wrote-all bytes d state w0 w1 good is put = record {
  text = text_from true initial_debugger (word_lines bytes);
  text_is = ap (λ (r : Result Bool (ℕ × Unit)). text_or_fault r (word_lines bytes)) good;
  put = subst (λ (e : Debugger). Appends w0 w1 (text_from true e (word_lines bytes))) is put;
}

pub wrote-part : (bytes : List ℕ) (d : Debugger) (state : Bool) (w0 w1 : Option (List ℕ)) → read_lines checked_line 1 true (word_lines bytes) ≡ Ok state → d ≡ initial_debugger
    → ((n : ℕ) × Appends w0 w1 (take n (text_from true d (word_lines bytes)))) → WrotePart bytes w0 w1
wrote-part bytes d state w0 w1 good is (n, put) = record {
  text = text_from true initial_debugger (word_lines bytes);
  text_is = ap (λ (r : Result Bool (ℕ × Unit)). text_or_fault r (word_lines bytes)) good;
  count = n;
  put = subst (λ (e : Debugger). Appends w0 w1 (take n (text_from true e (word_lines bytes)))) is put;
}
