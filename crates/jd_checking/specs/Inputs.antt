-- A problem and a certificate in one text.
use Rattle.std.specs.Prelude.{ℕ, List, Result, Ok, Err, ⊤}
use Rattle.jd_model.specs.Problems.{Problem}
use Rattle.jd_model.specs.Replays.{problem_and}
use Rattle.jd_trees.specs.declared.Node.{Node}
use Rattle.jd_trees.specs.CertTexts.{certificate_of}

-- a bad line of a certificate has no cause
abbrev pub without_cause : {A : Type 0} → Result A ℕ → Result A (ℕ × ⊤)
without_cause (Ok a) = Ok a
without_cause (Err line) = Err (line, tt)

-- what follows a problem, as a certificate
abbrev pub certificate_after : Problem → List ℕ → Result (List Node) (ℕ × ⊤)
certificate_after p text = without_cause (certificate_of text)

-- a problem and the nodes of a certificate, or the number of the first bad line, counted over the whole text
abbrev pub check_input : List ℕ → Result (Problem × List Node) ℕ
check_input bytes = problem_and certificate_after bytes
