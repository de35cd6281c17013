-- Each by computing it.
use Rattle.std.proofs.Common.{refl}
use Rattle.std.specs.Fmt.{digits}
use Rattle.jd_logic.proofs.laws.worked_faults.Goals as goal

pub returns : goal.returns
unfolding digits
returns c = record {
  hint_left_out = refl;
  deleted_clause = refl;
  negative_hint = refl;
  id_given = refl;
  id_deleted = refl;
  two_literals_open = refl;
  no_hints = refl;
  deleted_twice = refl;
  after_refutation = refl;
  grammar_first = refl;
}
