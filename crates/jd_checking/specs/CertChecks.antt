-- A certificate as far as its lines were read and checked.
use Rattle.std.specs.Prelude.{◌≡◌, ℕ, ◌+◌, List, [], ◌∷◌, ◌++◌, length, true, Option, Some, None, Result, Ok, Err, ⊤}
use Rattle.jd_text.specs.Words.{word_lines}
use Rattle.jd_text.specs.Readings.{read_lines}
use Rattle.jd_lines.specs.SourceLines.{LineState, HasRead}
use Rattle.jd_model.specs.Problems.{Problem}
use Rattle.jd_trees.specs.declared.CertEvent.{CertEvent}
use Rattle.jd_trees.specs.declared.Node.{Node}
use Rattle.jd_trees.specs.CertLines.{first_spot}
use Rattle.jd_trees.specs.CertTexts.{certificate_in, first_reading, with_cert_line}
use Rattle.jd_trees.specs.Events.{events_after}
use Rattle.jd_trees.specs.Trees.{Tree, preorder}
use Rattle.jd_cert.specs.declared.faults.CertFault.{CertFault}
use Rattle.jd_cert.specs.declared.faults.CertFault.TheVariants.{Syntax, NoMemory}
use Rattle.jd_cert.specs.Readers.{Reader}
use Rattle.jd_check.specs.declared.checked.Checked.{Checked}
use Rattle.jd_check.specs.Runs.{IsChecked}

-- these lines were taken, and none was bad: the check is one to which the events that they tell have come
pub record HasTaken (IsCheckAfter : List CertEvent → Type 0) (lines : List (List (List ℕ))) (reader : Reader) : Type 0 where
  pub good : reader.fault ≡ None
  pub counted : reader.lines ≡ length lines
  pub events : List CertEvent
  pub told : events_after first_spot lines ≡ Some (events, reader.spot)
  pub checking : IsCheckAfter events

-- the certificate that lines are, or the first bad one
abbrev pub certificate_in_lines : List (List (List ℕ)) → Result (List Node) ℕ
certificate_in_lines lines = certificate_in (length lines) (read_lines with_cert_line 1 first_reading lines)

-- whatever lines follow, the line after these is bad
abbrev pub IsLineFault : List (List (List ℕ)) → List (List ℕ) → CertFault → Type 0
IsLineFault lines words (Syntax line) =
    (line ≡ length lines + 1) × ((rest : List (List (List ℕ))) → certificate_in_lines (lines ++ words ∷ rest) ≡ Err line)
IsLineFault lines words NoMemory = ⊤

-- what is answered of a certificate's lines
pub record IsCertCheckOf (p : Problem) (lines : List (List (List ℕ))) (answer : Checked) : Type 0 where
  pub tree : Tree
  pub read : certificate_in_lines lines ≡ Ok (preorder tree)
  pub checked : IsChecked p tree answer

abbrev pub IsCertChecked : Problem → List (List (List ℕ)) → Result Checked ℕ → Type 0
IsCertChecked p lines (Ok answer) = IsCertCheckOf p lines answer
IsCertChecked p lines (Err line) = certificate_in_lines lines ≡ Err line

-- the same of what is held of a source's lines and what was read, with whatever follows, which is nothing where the end was met
pub record IsRestChecked (p : Problem) (old new : LineState) (before after : Option (List ℕ)) (answer : Result Checked ℕ) : Type 0 where
  pub bytes : List ℕ
  pub read : HasRead old new before after bytes
  pub says : (more : List ℕ) → (new.ended ≡ true → more ≡ []) → IsCertChecked p (word_lines (old.held ++ (bytes ++ more))) answer
