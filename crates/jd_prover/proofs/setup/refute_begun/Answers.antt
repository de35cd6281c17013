use Rattle.std.proofs.Common.{arith, sym, subst, refl, ℤ, List, []}
use Rattle.jd_logic.specs.Literals.{AreLiterals}
use Rattle.jd_propagate.specs.Quiet.{IsIn}
use Rattle.jd_propagate.proofs.Members.{false_is_not_true}
use Rattle.jd_prover.proofs.setup.refute_begun.Goals as goal

pub conflict_line-requires-clause-decisions : goal.conflict_line-requires-clause-decisions
conflict_line-requires-clause-decisions c = λ l is. (let P : List ℤ → Type 0 = λ ds. IsIn ds l in absurd (false_is_not_true _ refl (subst P c.requires.taken.no_decisions is)))

pub conflict_line-requires-clause-literals : goal.conflict_line-requires-clause-literals
conflict_line-requires-clause-literals c =
    let P : List ℤ → Type 0 = λ ds. AreLiterals ds in
    let none : AreLiterals [] = λ k d lt. absurd (omega arith) in
    subst P (sym c.requires.taken.no_decisions) none
