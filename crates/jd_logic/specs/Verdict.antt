-- What the check of a whole text says: clauses in DIMACS form, then LRAT lines.
use Rattle.std.specs.Prelude.{ℕ, suc, true, false, List, [], ◌∷◌, drop, Ok, Err}
use Rattle.jd_logic.specs.declared.Line.{Line}
use Rattle.jd_logic.specs.declared.answers.Verdict.{Verdict}
use Rattle.jd_logic.specs.declared.answers.Verdict.TheVariants.{NotText, Refuted, NotRefuted, Bad}
use Rattle.jd_text.specs.Lines.{lines_of}
use Rattle.jd_logic.specs.Checking.{State, begun, checked}
use Rattle.jd_logic.specs.LratText.{log_of}
use Rattle.jd_logic.specs.Dimacs.{cnf_of}

-- where every line is right
abbrev pub verdict_at_end : State → Verdict
verdict_at_end s = elim s.refuted [ true ↦ Refuted | false ↦ NotRefuted ]

-- the lines in turn, counted from a number on
abbrev pub verdict_of_log : State → ℕ → List Line → Verdict
verdict_of_log s n [] = verdict_at_end s
verdict_of_log s n (line ∷ lines) = elim (checked s line) [
  | Ok next ↦ verdict_of_log next (suc n) lines
  | Err cause ↦ Bad n cause
]

-- the grammar of all lines comes before the check of any
abbrev pub verdict_of_lines : List (List ℕ) → Verdict
verdict_of_lines lines = elim (cnf_of lines) [
  | Err n ↦ NotText n
  | Ok cnf ↦ (elim (log_of (suc cnf.lines) (drop cnf.lines lines)) [
    | Err n ↦ NotText n
    | Ok log ↦ verdict_of_log (begun cnf.clauses) 1 log
  ])
]

abbrev pub verdict_of : List ℕ → Verdict
verdict_of bytes = verdict_of_lines (lines_of bytes)
