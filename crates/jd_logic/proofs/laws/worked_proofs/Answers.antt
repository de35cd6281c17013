-- Each by computing it.
use Rattle.std.proofs.Common.{refl}
use Rattle.std.specs.Fmt.{digits}
use Rattle.jd_logic.proofs.laws.worked_proofs.Goals as goal

pub returns : goal.returns
unfolding digits
returns c = record {
  refuted = refl;
  not_finished = refl;
  after_deletion = refl;
  no_clauses = refl;
  given_empty_clause = refl;
  empty_clause_deleted = refl;
  deletion_of_none = refl;
  hints_after_conflict = refl;
  literal_repeated = refl;
  tautology = refl;
}
