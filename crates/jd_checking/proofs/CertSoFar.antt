-- A certificate over a source's lines, as far as they were taken.
use Rattle.std.proofs.Common.{◌≡◌, ℕ, ◌+◌, ◌≤◌, true, false, List, [], ◌∷◌, ◌++◌, length, map, sym, ap, ◌∙◌, subst, arith, append_assoc, append-nil, length-append}
use Rattle.std.specs.Prelude.{Option, Result, Err}
use Rattle.std.proofs.lemmas.List.{map-append, length-map}
use Rattle.jd_text.specs.Lines.{lines_of}
use Rattle.jd_text.specs.Words.{words_of, word_lines}
use Rattle.jd_lines.specs.SourceLines.{LineState, Advances, AreTaken}
use Rattle.jd_lines.proofs.LinesTaken.{taken-none, taken-more, taken-all, taken-few}
use Rattle.jd_model.specs.Problems.{Problem}
use Rattle.jd_cert.specs.declared.faults.CertFault.TheVariants.{Syntax}
use Rattle.jd_cert.specs.Readers.{Reader}
use Rattle.jd_check.specs.declared.checked.Checked.{Checked}
use Rattle.jd_trees.specs.declared.CertEvent.{CertEvent}
use Rattle.jd_checking.specs.CertChecks.{HasTaken, IsLineFault, IsCertChecked, IsRestChecked, certificate_in_lines}

-- these lines of the source were taken by the check
pub record IsSoFar (IsCheckAfter : List CertEvent → Type 0) (old now : LineState) (before left : Option (List ℕ)) (reader : Reader) : Type 0 where
  pub lines : List (List ℕ)
  pub taken : AreTaken old now before left lines
  pub checks : HasTaken IsCheckAfter (map words_of lines) reader

pub so-none : (IsCheckAfter : List CertEvent → Type 0) (s : LineState) (left : Option (List ℕ)) (reader : Reader) → HasTaken IsCheckAfter [] reader → IsSoFar IsCheckAfter s s left left reader
so-none IsCheckAfter s left reader checks = record { lines = []; taken = taken-none s left; checks = checks }

module _ (IsCheckAfter : List CertEvent → Type 0) (old now new : LineState) (before left after : Option (List ℕ)) (reader : Reader) (so : IsSoFar IsCheckAfter old now before left reader) where
  counted : reader.lines ≡ length so.lines
  counted = so.checks.counted ∙ length-map so.lines words_of

  -- a line more is counted
  pub counted-more : (IsNow : List CertEvent → Type 0) (now_reader : Reader) → HasTaken IsNow (map words_of so.lines ++ words_of new.line ∷ []) now_reader → now_reader.lines ≡ reader.lines + 1
  counted-more IsNow now_reader checks = omega (arith, checks.counted, so.checks.counted, length-append (map words_of so.lines) (words_of new.line ∷ []))

  module _ (advances : Advances now new left after true) where
    taken : AreTaken old new before after (so.lines ++ new.line ∷ [])
    taken = taken-more old now new before left after so.lines so.taken advances

    -- the line can be counted
    pub one-more : reader.lines + 1 ≤ length old.held + old.within
    one-more =
        let few = taken-few old new before after (so.lines ++ new.line ∷ []) taken in
        omega (arith, few, counted, taken.read.within, length-append so.lines (new.line ∷ []))

    pub so-more : (IsNow : List CertEvent → Type 0) (now_reader : Reader) → HasTaken IsNow (map words_of so.lines ++ words_of new.line ∷ []) now_reader → IsSoFar IsNow old new before after now_reader
    so-more IsNow now_reader checks = record {
      lines = so.lines ++ new.line ∷ [];
      taken = taken;
      checks = subst (λ ls. HasTaken IsNow ls now_reader) (sym (map-append words_of so.lines (new.line ∷ []))) checks;
    }

    -- the line is bad
    pub rest-fault : (p : Problem) (line : ℕ) → IsLineFault (map words_of so.lines) (words_of new.line) (Syntax line) → IsRestChecked p old new before after (Err line)
    rest-fault p line fault = record {
      bytes = taken.bytes;
      read = taken.read;
      says = λ more h.
          ap (λ ls. certificate_in_lines (map words_of ls)) (taken.are more h ∙ append_assoc so.lines (new.line ∷ []) (lines_of (new.held ++ more)))
          ∙ ap certificate_in_lines (map-append words_of so.lines (new.line ∷ lines_of (new.held ++ more)))
          ∙ fault.1 (word_lines (new.held ++ more));
    }

  -- no line is left
  pub few : reader.lines ≤ length old.held + old.within
  few = let few = taken-few old now before left so.lines so.taken in omega (arith, few, counted, so.taken.read.within)

  pub rest-whole : (p : Problem) → Advances now new left after false → (answer : Result Checked ℕ) → IsCertChecked p (map words_of so.lines) answer → IsRestChecked p old new before after answer
  rest-whole p advances answer is =
      let all = taken-all old now new before left after so.lines so.taken advances in
      record {
        bytes = all.bytes;
        read = all.read;
        says = λ more h.
            subst (λ m. IsCertChecked p (word_lines (old.held ++ (all.bytes ++ m))) answer) (sym (h all.ended))
            (subst (λ t. IsCertChecked p (word_lines (old.held ++ t)) answer) (sym (append-nil all.bytes))
            (subst (λ ls. IsCertChecked p (map words_of ls) answer) (sym all.are) is));
      }
