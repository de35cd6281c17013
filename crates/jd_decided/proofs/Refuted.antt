-- The lines of a refutation are right, and derive the empty clause.
use Rattle.std.proofs.Common.{◌≡◌, ℕ, suc, ◌&&◌, ◌||◌, not, Bool, true, false, List, [], ◌∷◌, Option, Some, None, ap, length, nat_le, ℤ}
use Rattle.std.specs.Prelude.{Result, Ok, Err}
use Rattle.std.specs.List.{list_any, list_all}
use Rattle.std.proofs.lemmas.Bool.{false≢true}
use Rattle.jd_text.proofs.Tests.{left-part, right-part}
use Rattle.jd_logic.specs.declared.Line.{Line}
use Rattle.jd_logic.specs.declared.answers.BadLine.{BadLine}
use Rattle.jd_logic.specs.Checking.{State, begun, checked, is_empty}
use Rattle.jd_books.specs.Checks.{LogEnd, bad_at, right_lines, log_end_from}
use Rattle.jd_proving.specs.Proving.{state_after, is_derivation, is_no_line, is_refutation, IsRefuted}

abbrev ends_refuted : Option State → Bool
ends_refuted r = elim r [ Some s ↦ s.refuted | None ↦ false ]

lines-right : (log : List Line) (s : State) (n : ℕ) → ends_refuted (state_after s log) ≡ true → log_end_from s n log ≡ right_lines true
lines-right [] s n h = ap right_lines h
lines-right (line ∷ log) s n h = by_checked (checked s line) h (λ next. lines-right log next (suc n))
  where
    by_checked : (r : Result State BadLine) → ends_refuted (elim r [ Ok next ↦ state_after next log | Err cause ↦ None ]) ≡ true
        → ((next : State) → ends_refuted (state_after next log) ≡ true → log_end_from next (suc n) log ≡ right_lines true)
        → (elim r as (λ _. LogEnd) [ Err cause ↦ bad_at n cause | Ok next ↦ log_end_from next (suc n) log ]) ≡ right_lines true
    by_checked (Ok next) h more = more next h
    by_checked (Err cause) h more = absurd (false≢true h)

pub refutation-right : (clauses : List (List ℤ)) (budget : ℕ) (log : List Line) → IsRefuted clauses budget log → log_end_from (begun clauses) 1 log ≡ right_lines true
refutation-right clauses budget log h =
    let whole : is_refutation clauses log ≡ true = left-part (is_refutation clauses log) (nat_le (length log) budget) h in
    lines-right log (begun clauses) 1
    (right-part (list_all is_derivation log && (is_no_line log || not (list_any is_empty clauses))) (ends_refuted (state_after (begun clauses) log)) whole)
