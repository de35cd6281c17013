use Rattle.std.proofs.Common.{subst, ℤ, List}
use Rattle.jd_learn.specs.Teaching.{IsGiving}
use Rattle.jd_learn.proofs.learning.teach.Goals as goal

pub teach_unit-requires-clause-giving : goal.teach_unit-requires-clause-giving
teach_unit-requires-clause-giving c = let G : List ℤ → Type 0 = λ xs. IsGiving c.args.solver.now.trail xs in subst G c.as_slice.ensures.value c.if-not-is_giving.ensures

pub teach_watched-requires-clause-giving : goal.teach_watched-requires-clause-giving
teach_watched-requires-clause-giving c = let G : List ℤ → Type 0 = λ xs. IsGiving c.args.solver.now.trail xs in subst G c.as_slice.ensures.value c.if-not-is_giving.ensures
