use Rattle.std.specs.Prelude.{refl}
use Rattle.std.specs.Fmt.{digits}
use Rattle.jd_generated.proofs.laws.worked_generated.Goals as goal

pub returns : goal.returns
unfolding digits
returns c = record { one_draw = refl; two_draws = refl; first = refl; second = refl; printed = refl; printed_next = refl }
