-- What is found in a text that is a problem and then a certificate.
use Rattle.std.proofs.Common.{◌≡◌, ℕ, zero, suc, ◌+◌, ◌==◌, Bool, true, false, List, [], ◌∷◌, ◌++◌, drop, map, refl, sym, ap, ◌∙◌, subst, arith, append_assoc}
use Rattle.std.specs.Prelude.{Option, Result, Ok, Err}
use Rattle.jd_text.specs.Lines.{put, lines_of, bytes_of_lines}
use Rattle.jd_text.specs.Words.{words_of, word_lines}
use Rattle.jd_text.specs.Readings.{read_until}
use Rattle.jd_lines.specs.SourceLines.{LineState, new_lines, HasRead, IsSkipped}
use Rattle.jd_lines.specs.Until.{IsReadUntil}
use Rattle.jd_lines.proofs.LinesTaken.{reads-more, ended-more}
use Rattle.jd_model.specs.declared.causes.ProblemCause.{ProblemCause}
use Rattle.jd_model.specs.declared.causes.ProblemCause.TheVariants.{Missing}
use Rattle.jd_model.specs.Problems.{Problem}
use Rattle.jd_model.specs.ProblemTexts.{Reading, is_whole, with_problem_line, nothing_read, problem_read}
use Rattle.jd_model.specs.Replays.{after_lines}
use Rattle.jd_trees.specs.declared.Node.{Node}
use Rattle.jd_check.specs.declared.checked.Checked.{Checked}
use Rattle.jd_checking.specs.declared.source_checked.SourceChecked.{SourceChecked}
use Rattle.jd_checking.specs.declared.source_checked.SourceChecked.TheVariants as answers
use Rattle.jd_checking.specs.Inputs.{without_cause, certificate_after, check_input}
use Rattle.jd_checking.specs.CertChecks.{IsCertChecked, IsRestChecked, certificate_in_lines}
use Rattle.jd_checking.specs.Finds.{IsFound}
use Rattle.jd_checking.specs.SourceChecks.{IsSourceChecked, IsAnswer}

-- ---- the lines after so many

drop-put : (n b : ℕ) (lines : List (List ℕ)) → drop (suc n) lines ≡ drop (suc n) (put false b lines)
drop-put zero b [] = refl
drop-put (suc n) b [] = refl
drop-put n b (line ∷ lines) = refl

lines-dropped : (text : List ℕ) (n : ℕ) → lines_of (drop (bytes_of_lines n text) text) ≡ drop n (lines_of text)
lines-dropped [] zero = refl
lines-dropped [] (suc n) = refl
lines-dropped (b ∷ text) zero = refl
lines-dropped (b ∷ text) (suc n) = turn (b == 10) (lines-dropped text n) (lines-dropped text (suc n))
  where
    turn : (ends : Bool) → lines_of (drop (bytes_of_lines n text) text) ≡ drop n (lines_of text) → lines_of (drop (bytes_of_lines (suc n) text) text) ≡ drop (suc n) (lines_of text)
        → lines_of (drop (elim ends [ true ↦ bytes_of_lines n text | false ↦ bytes_of_lines (suc n) text ]) text) ≡ drop (suc n) (put ends b (lines_of text))
    turn true one more = one
    turn false one more = more ∙ drop-put n b (lines_of text)

-- ---- a problem, and the lines after it

abbrev problem_lines : List ℕ → Result (Reading × ℕ) (ℕ × ProblemCause)
problem_lines text = read_until is_whole Missing with_problem_line 1 nothing_read (word_lines text)

abbrev input_in : List ℕ → Result (Problem × ℕ) (ℕ × ProblemCause) → Result (Problem × List Node) ℕ
input_in text read = elim read [
  | Err fault ↦ Err fault.0
  | Ok read ↦ after_lines read.1 read.0 (certificate_after read.0 (drop (bytes_of_lines read.1 text) text))
]

module _ (text : List ℕ) where
  problem-fault : (fault : ℕ × ProblemCause) → problem_lines text ≡ Err fault → check_input text ≡ Err fault.0
  problem-fault fault read = ap (λ r. input_in text (problem_read r)) read

  module _ (r : Reading) (lines : ℕ) (rest : List ℕ) (read : problem_lines text ≡ Ok (r, lines)) (after : drop lines (lines_of text) ≡ lines_of rest) where
    input-after : check_input text ≡ after_lines lines r.problem (without_cause (certificate_in_lines (word_lines rest)))
    input-after =
        ap (λ r. input_in text (problem_read r)) read
        ∙ ap (λ ls. after_lines lines r.problem (without_cause (certificate_in_lines (map words_of ls)))) (lines-dropped text lines ∙ after)

    text-checked : (answer : Checked) → IsCertChecked r.problem (word_lines rest) (Ok answer) → IsSourceChecked text (answers.Checked answer)
    text-checked answer is = record {
      problem = r.problem;
      tree = is.tree;
      read = input-after ∙ ap (λ c. after_lines lines r.problem (without_cause c)) is.read;
      checked = is.checked;
    }

    text-fault : (line : ℕ) → IsCertChecked r.problem (word_lines rest) (Err line) → IsSourceChecked text (answers.BadLine (lines + line))
    text-fault line is = input-after ∙ ap (λ c. after_lines lines r.problem (without_cause c)) is

-- ---- over a source

-- what was read since a reading of nothing, by an equal answer
pub read-since : (old new : LineState) (before after : Option (List ℕ)) (start end : Reading) (answer due : Result ℕ (ℕ × ProblemCause)) → start ≡ nothing_read → answer ≡ due
    → IsReadUntil is_whole Missing with_problem_line start old new before after answer end → IsReadUntil is_whole Missing with_problem_line nothing_read old new before after due end
read-since old new before after start end answer due e f u =
    subst (λ s. IsReadUntil is_whole Missing with_problem_line s old new before after due end) e (subst (λ a. IsReadUntil is_whole Missing with_problem_line start old new before after a end) f u)

-- the problem has a bad line
pub problem-bad : (old new : LineState) (before after : Option (List ℕ)) (line : ℕ) (cause : ProblemCause) (end : Reading)
    → IsReadUntil is_whole Missing with_problem_line nothing_read old new before after (Err (line, cause)) end → IsFound old new before after (answers.BadLine line)
problem-bad old new before after line cause end u = record {
  bytes = u.bytes;
  read = u.read;
  says = λ more h. problem-fault (old.held ++ (u.bytes ++ more)) (line, cause) (u.says more h);
}

module _ (old now new : LineState) (before left after : Option (List ℕ)) (lines : ℕ) (r : Reading)
    (u : IsReadUntil is_whole Missing with_problem_line nothing_read old now before left (Ok lines) r) where
  found : (answer : SourceChecked) (bytes : List ℕ) → HasRead now new left after bytes
      → ((more : List ℕ) → (new.ended ≡ true → more ≡ []) → IsSourceChecked (old.held ++ (u.bytes ++ (bytes ++ more))) answer) → IsFound old new before after answer
  found answer bytes read says = record {
    bytes = u.bytes ++ bytes;
    read = reads-more old now new before left after u.bytes bytes u.read read;
    says = λ more h. subst (λ t. IsSourceChecked (old.held ++ t) answer) (sym (append_assoc u.bytes bytes more)) (says more h);
  }

  -- the certificate was checked
  pub rest-checked : (answer : Checked) → IsRestChecked r.problem now new left after (Ok answer) → IsFound old new before after (answers.Checked answer)
  rest-checked answer is = found (answers.Checked answer) is.bytes is.read
      (λ more h.
      let said = u.says (is.bytes ++ more) (ended-more now new left after is.bytes more is.read h) in
      text-checked (old.held ++ (u.bytes ++ (is.bytes ++ more))) r lines (now.held ++ (is.bytes ++ more)) said.0 said.1 answer (is.says more h))

  -- or has a bad line
  pub rest-bad : (line : ℕ) → IsRestChecked r.problem now new left after (Err line) → IsFound old new before after (answers.BadLine (lines + line))
  rest-bad line is = found (answers.BadLine (lines + line)) is.bytes is.read
      (λ more h.
      let said = u.says (is.bytes ++ more) (ended-more now new left after is.bytes more is.read h) in
      text-fault (old.held ++ (u.bytes ++ (is.bytes ++ more))) r lines (now.held ++ (is.bytes ++ more)) said.0 said.1 line (is.says more h))

-- ---- the source read to its end

pub all-answered : (limit : ℕ) (now new : LineState) (before left after : Option (List ℕ)) (answer : SourceChecked)
    → IsFound (new_lines limit) now before left answer → IsSkipped now new left after → IsAnswer limit before after answer
all-answered limit now new before left after answer is rest =
    let read = reads-more (new_lines limit) now new before left after is.bytes rest.bytes is.read rest.read in
    record {
      taken = is.bytes ++ rest.bytes;
      rest = record { taken = read.taken; ended = read.at_end refl rest.ended };
      within = omega (arith, read.within);
      answers = is.says rest.bytes (λ e. (rest.read.over e).none);
    }
