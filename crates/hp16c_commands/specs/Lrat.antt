-- What `lrat` answers for the bytes of clauses and of a proof.
use Rattle.std.specs.Prelude.{ℕ, List, [], ◌∷◌, ◌++◌}
use Rattle.jd_logic.specs.declared.answers.Verdict.{Verdict}
use Rattle.jd_logic.specs.declared.answers.Verdict.TheVariants.{NotText, Refuted, NotRefuted, Bad}
use Rattle.jd_logic.specs.Verdict.{verdict_of}
use Rattle.jd_logic.specs.LratCommand.{verdict_text}
use Rattle.hp16c_commands.specs.declared.outcomes.Kept.{Kept}
use Rattle.hp16c_commands.specs.declared.outcomes.Kept.TheVariants.{Nothing, Proof}
use Rattle.hp16c_commands.specs.declared.outcomes.Status.{Status}
use Rattle.hp16c_commands.specs.declared.outcomes.Status.TheVariants.{Done, BadInput, CertRefused}
use Rattle.hp16c_commands.specs.Answers.{Answer}

abbrev pub status_of_verdict : Verdict → Status
status_of_verdict (NotText line) = BadInput
status_of_verdict Refuted = Done
status_of_verdict NotRefuted = CertRefused
status_of_verdict (Bad line cause) = CertRefused

-- the first line of the proof that isn't right is kept
abbrev pub kept_of_verdict : Verdict → Kept
kept_of_verdict (Bad line cause) = Proof line cause
kept_of_verdict _ = Nothing

abbrev pub answer_of_verdict : Verdict → Answer
answer_of_verdict verdict = record {
  outcome = record { status = status_of_verdict verdict; kept = kept_of_verdict verdict };
  text = verdict_text verdict ++ 10 ∷ [];
}

abbrev pub lrat_answer : List ℕ → Answer
lrat_answer bytes = answer_of_verdict (verdict_of bytes)
