-- Lines whose ids, literals and hints are in their ranges.
use Rattle.std.specs.Prelude.{ℕ, ℤ, List}
use Rattle.std.specs.List.{All}
use Rattle.jd_logic.specs.declared.Line.{Line}
use Rattle.jd_logic.specs.declared.Line.TheVariants.{Derive, Delete}
use Rattle.jd_logic.specs.Literals.{IsId, AreLiterals, AreHints, AreIds}

pub record IsDerivation (id : ℕ) (clause hints : List ℤ) : Type 0 where
  pub id_in : IsId id
  pub clause_in : AreLiterals clause
  pub hints_in : AreHints hints

abbrev pub IsLine : Line → Type 0
IsLine (Derive id clause hints) = IsDerivation id clause hints
IsLine (Delete ids) = AreIds ids

abbrev pub AreLines : List Line → Type 0
AreLines log = All IsLine log
