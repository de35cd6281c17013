-- What the command `lrat` writes for the bytes that it reads, and its exit status.
use Rattle.std.specs.Prelude.{ℕ, nat_abs, true, false, nat_lt, List, [], ◌∷◌, ◌++◌, length, codes}
use Rattle.std.specs.Fmt.{decimal}
use Rattle.jd_logic.specs.declared.answers.BadLine.{BadLine}
use Rattle.jd_logic.specs.declared.answers.BadLine.TheVariants.{IdOrder, NoClause, NotUnit, NoConflict, RatLine}
use Rattle.jd_logic.specs.declared.answers.Verdict.{Verdict}
use Rattle.jd_logic.specs.declared.answers.Verdict.TheVariants.{NotText, Refuted, NotRefuted, Bad}
use Rattle.jd_logic.specs.Verdict.{verdict_of}

pub record Answer : Type 0 where
  pub text : List ℕ
  pub status : ℕ

-- a line and a status
abbrev pub answer : List ℕ → ℕ → Answer
answer text status = record { text = text ++ 10 ∷ []; status = status }

abbrev pub cause_text : BadLine → List ℕ
cause_text IdOrder = codes "IdOrder"
cause_text (NoClause h) = codes "NoClause " ++ decimal (nat_abs h)
cause_text (NotUnit h) = codes "NotUnit " ++ decimal (nat_abs h)
cause_text NoConflict = codes "NoConflict"
cause_text RatLine = codes "RatLine"

abbrev pub verdict_text : Verdict → List ℕ
verdict_text (NotText line) = codes "bad line " ++ decimal line
verdict_text Refuted = codes "refuted"
verdict_text NotRefuted = codes "not refuted"
verdict_text (Bad line cause) = codes "bad - " ++ decimal line ++ codes " " ++ cause_text cause

abbrev pub verdict_status : Verdict → ℕ
verdict_status (NotText line) = 4
verdict_status Refuted = 0
verdict_status NotRefuted = 9
verdict_status (Bad line cause) = 9

-- the greatest input, in bytes
abbrev pub limit : ℕ
limit = 268_435_456

abbrev pub lrat : List ℕ → Answer
lrat bytes = elim (nat_lt limit (length bytes)) [
  | true ↦ answer (codes "limit") 5
  | false ↦ answer (verdict_text (verdict_of bytes)) (verdict_status (verdict_of bytes))
]
