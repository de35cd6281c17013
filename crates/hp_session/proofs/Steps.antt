-- What a byte, and the end of the file, do by the clauses of the functions that are called.
use Rattle.std.proofs.Common.{◌≡◌, ℕ, ◌+◌, ◌<◌, ◌≤◌, ◌==◌, true, false, List, [], ◌∷◌, ◌++◌, length, take, drop, sym, ap, ◌∙◌, append-nil, length-append, arith, subst, Option, Some, None, Ok, Err, OnOk, IfErr, MatchResult}
use Rattle.std.specs.declared.result.Result.{Result}
use Rattle.std.proofs.lemmas.List.{take-append-drop, take_all}
use Rattle.std.specs.Io.KnownBytes.{Appends}
use Rattle.std.proofs.KnownBytes.{Appends-nil, Keeps-refl}
use Rattle.hp_model.specs.Display.{display}
use Rattle.hp_model.specs.Session.{is_separator, all_done, bad_word, Session, ending, preceded}
use Rattle.hp_session.specs.declared.sessions.SessionEnd.{SessionEnd as End}
use Rattle.hp_session.specs.declared.sessions.SessionEnd.TheVariants.{Done, BadWord, ReadFault, WriteFault}
use Rattle.hp_session.specs.Progress.{Progress, to_come, word_ended, letter_added, line_ended}
use Rattle.hp_session.specs.Steps.{shown, IsBadWord, Goes, Cut, Halts, Finishes, CutsLine}
use Rattle.hp_session.proofs.Parts.{at_letter, at_long_word, wrong_at_separator, at_blank, at_line_end, at_last_line_end, wrong_at_end, at_closed_end, at_open_end, ended}

-- ---- a line's display that was cut short

pub cut_text : (text : List ℕ) (written0 written : Option (List ℕ)) (n : ℕ) → Appends written0 written (take n text) → Cut (shown text) written0 written
cut_text text written0 written n put = record {
  text = take n text;
  left_out = drop n text;
  put = put;
  whole = ap shown (sym (take-append-drop n text));
}

-- a display that was cut short is all that a line, or the end of the file, gives
alone : (text : List ℕ) → preceded text (ending all_done) ≡ shown text
alone text = ap shown (append-nil text)

due : (x y : Session) (written0 written : Option (List ℕ)) → x ≡ y → Cut y written0 written → Cut x written0 written
due x y written0 written e cut = record { text = cut.text; left_out = cut.left_out; put = cut.put; whole = e ∙ cut.whole }

-- ---- a letter

abbrev as_bad_word : ℕ → List ℕ → Session
as_bad_word at letters = ending (bad_word at letters)

-- a bad word's letters, of which there are at most eight
named : (at line : ℕ) (letters items : List ℕ) → line ≡ at → items ≡ letters → length letters ≤ 8 → as_bad_word at (take 8 letters) ≡ as_bad_word line items
named at line letters items same_line same few = ap (as_bad_word at) (take_all 8 letters few ∙ sym same) ∙ ap (λ n. as_bad_word n items) (sym same_line)

bad_at_letter : (end : End) (p : Progress) (b : ℕ) (written : Option (List ℕ)) → is_separator b ≡ false → length p.word ≡ 7 → IsBadWord end p.line (p.word ++ b ∷ []) → Halts b end p written written
bad_at_letter (BadWord line word) p b written plain seven is =
    let eight : length (p.word ++ b ∷ []) ≡ 8 = simp length-append (omega (arith, seven)) in (
      Keeps-refl written,
      λ end whole rest.
          at_letter end whole p b rest plain ∙ at_long_word end whole (letter_added b p) rest (omega (arith, eight))
          ∙ named p.line line (p.word ++ b ∷ []) word.items is.0 is.1 (omega (arith, eight)),
    )
bad_at_letter _ p b written plain seven is = absurd is

module _ {T : Type 0} where
  pub letter-halts : (r : Result T End) (p q : Progress) (b : ℕ) (written : Option (List ℕ)) → is_separator b ≡ false
      → MatchResult r (λ _. (q ≡ letter_added b p) × (length q.word < 8)) (λ end. IsBadWord end p.line (p.word ++ b ∷ []) × (length p.word ≡ 7))
      → IfErr r (λ end. Halts b end p written written)
  letter-halts (Ok _) p q b written plain h = tt
  letter-halts (Err end) p q b written plain h = bad_at_letter end p b written plain h.1 h.0

  pub letter-goes : (r : Result T End) (p q : Progress) (b : ℕ) (written : Option (List ℕ)) → is_separator b ≡ false
      → MatchResult r (λ _. (q ≡ letter_added b p) × (length q.word < 8)) (λ end. IsBadWord end p.line (p.word ++ b ∷ []) × (length p.word ≡ 7))
      → OnOk r (Goes b p q written written)
  letter-goes (Ok _) p q b written plain h = record {
    text = [];
    put = Appends-nil written;
    gives = λ end whole rest. at_letter end whole p b rest plain ∙ ap (λ (r : Progress). to_come end whole r rest) (sym h.0);
  }
  letter-goes (Err end) p q b written plain h = tt

-- ---- a separator

pub bad_at_separator : (end : End) (p : Progress) (b : ℕ) (written : Option (List ℕ)) → is_separator b ≡ true → length p.word ≤ 8 → word_ended p ≡ None → IsBadWord end p.line p.word → Halts b end p written written
bad_at_separator (BadWord line word) p b written sep few wrong is =
    (Keeps-refl written, λ end whole rest. wrong_at_separator end whole p b rest sep wrong ∙ named p.line line p.word word.items is.0 is.1 few)
bad_at_separator _ p b written sep few wrong is = absurd is

pub blank-goes : (p q r : Progress) (b : ℕ) (written : Option (List ℕ)) → is_separator b ≡ true → (b == 10) ≡ false → word_ended p ≡ Some q → record q { begun = true } ≡ r
    → Goes b p r written written
blank-goes p q r b written sep blank good next = record {
  text = [];
  put = Appends-nil written;
  gives = λ end whole rest. at_blank end whole p q b rest sep blank good ∙ ap (λ (s : Progress). to_come end whole s rest) next;
}

pub blank-word : (p q r : Progress) → word_ended p ≡ Some q → record q { begun = true } ≡ r → length r.word < 8
blank-word p q r good next = omega (arith, ap (λ (s : Progress). length s.word) (sym next), ap (λ (s : Progress). length s.word) (ended p q good))

pub blank-line : (p q r : Progress) → word_ended p ≡ Some q → record q { begun = true } ≡ r → r.line ≤ p.line + 1
blank-line p q r good next = omega (arith, ap (λ (s : Progress). s.line) (sym next), ap (λ (s : Progress). s.line) (ended p q good))

line_goes : (p q r : Progress) (b : ℕ) (written0 written : Option (List ℕ)) → (b == 10) ≡ true → word_ended p ≡ Some q → r ≡ line_ended q → Appends written0 written (display q.calculator ++ 10 ∷ [])
    → Goes b p r written0 written
line_goes p q r b written0 written lf good next put = record {
  text = display q.calculator ++ 10 ∷ [];
  put = put;
  gives = λ end whole rest. at_line_end end whole p q b rest lf good ∙ ap (λ (s : Progress). preceded (display q.calculator ++ 10 ∷ []) (to_come end whole s rest)) (sym next);
}

line_halts : (end : End) (p q : Progress) (b : ℕ) (written0 written : Option (List ℕ)) → (b == 10) ≡ true → word_ended p ≡ Some q → CutsLine end q written0 written → Halts b end p written0 written
line_halts WriteFault p q b written0 written lf good cut =
    due _ _ written0 written (at_last_line_end p q b lf good ∙ alone (display q.calculator ++ 10 ∷ [])) cut
line_halts _ p q b written0 written lf good cut = absurd cut

module _ {T : Type 0} where
  pub line-goes : (r : Result T End) (p q next : Progress) (b : ℕ) (written0 written : Option (List ℕ)) → (b == 10) ≡ true → word_ended p ≡ Some q
      → OnOk r (next ≡ line_ended q) → OnOk r (Appends written0 written (display q.calculator ++ 10 ∷ [])) → OnOk r (Goes b p next written0 written)
  line-goes (Ok _) p q next b written0 written lf good is put = line_goes p q next b written0 written lf good is put
  line-goes (Err _) p q next b written0 written lf good is put = tt

  pub line-halts : (r : Result T End) (p q : Progress) (b : ℕ) (written0 written : Option (List ℕ)) → (b == 10) ≡ true → word_ended p ≡ Some q
      → IfErr r (λ end. CutsLine end q written0 written) → IfErr r (λ end. Halts b end p written0 written)
  line-halts (Ok _) p q b written0 written lf good cut = tt
  line-halts (Err end) p q b written0 written lf good cut = line_halts end p q b written0 written lf good cut

  pub line-word : (r : Result T End) (p q next : Progress) → word_ended p ≡ Some q → OnOk r (next ≡ line_ended q) → OnOk r (length next.word < 8)
  line-word (Ok _) p q next good is = omega (arith, ap (λ (s : Progress). length s.word) is, ap (λ (s : Progress). length s.word) (ended p q good))
  line-word (Err _) p q next good is = tt

  pub line-next : (r : Result T End) (p q next : Progress) → word_ended p ≡ Some q → OnOk r (next ≡ line_ended q) → OnOk r (next.line ≤ p.line + 1)
  line-next (Ok _) p q next good is = omega (arith, ap (λ (s : Progress). s.line) is, ap (λ (s : Progress). s.line) (ended p q good))
  line-next (Err _) p q next good is = tt

-- ---- the end of the file

pub bad_at_end : (end : End) (p : Progress) (written : Option (List ℕ)) → length p.word ≤ 8 → word_ended p ≡ None → IsBadWord end p.line p.word → Finishes end p written written
bad_at_end (BadWord line word) p written few wrong is = (Keeps-refl written, wrong_at_end p wrong ∙ named p.line line p.word word.items is.0 is.1 few)
bad_at_end _ p written few wrong is = absurd is

pub closed-finishes : (p q : Progress) (written : Option (List ℕ)) → word_ended p ≡ Some q → q.begun ≡ false → Finishes Done p written written
closed-finishes p q written good closed = ([], Appends-nil written, at_closed_end p q good closed)

pub open-finishes : (p q : Progress) (written0 written : Option (List ℕ)) → word_ended p ≡ Some q → q.begun ≡ true → Appends written0 written (display q.calculator ++ 10 ∷ []) → Finishes Done p written0 written
open-finishes p q written0 written good begun put = (display q.calculator ++ 10 ∷ [], put, at_open_end p q good begun ∙ alone (display q.calculator ++ 10 ∷ []))

pub open-cut : (end : End) (p q : Progress) (written0 written : Option (List ℕ)) → word_ended p ≡ Some q → q.begun ≡ true → CutsLine end q written0 written → Finishes end p written0 written
open-cut WriteFault p q written0 written good begun cut = due _ _ written0 written (at_open_end p q good begun ∙ alone (display q.calculator ++ 10 ∷ [])) cut
open-cut _ p q written0 written good begun cut = absurd cut

-- ---- no step answers that a read failed

pub halts_unread : (b : ℕ) (end : End) (p : Progress) (written0 written : Option (List ℕ)) → Halts b end p written0 written → end ≡ ReadFault → ⊥
halts_unread b end p written0 written h e = subst (λ z. Halts b z p written0 written) e h

pub finishes_unread : (end : End) (p : Progress) (written0 written : Option (List ℕ)) → Finishes end p written0 written → end ≡ ReadFault → ⊥
finishes_unread end p written0 written h e = subst (λ z. Finishes z p written0 written) e h
