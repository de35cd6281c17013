use Rattle.std.proofs.Common.{sym, subst, w32, rules, ℤ}
use Rattle.std.proofs.lemmas.Int.{to_z-of_z}
use mir.Val.{SFits}
use Rattle.jd_logic.specs.Literals.{IsLiteral}
use Rattle.jd_propagate.proofs.Steps.{literal_in}
use Rattle.jd_prover.proofs.Taking.{unit-stays, unit-false}
use Rattle.jd_prover.proofs.setup.take_if_unit.Goals as goal

pub take_unit-requires-clause-literal : goal.take_unit-requires-clause-literal
take_unit-requires-clause-literal c =
    let r = c.first_of-first.result in
    let f : SFits w32 r = search rules in
    let L : ℤ → Type 0 = λ z. IsLiteral z in
    subst L (sym (to_z-of_z w32 r f)) (literal_in c.clause-clause.result.now r c.clause-clause.ensures.range c.first_of-first.ensures)

pub returns-in_ok-kept-in-None-clause-taken : goal.returns-in_ok-kept-in-None-clause-taken
returns-in_ok-kept-in-None-clause-taken c =
    unit-stays c.args.clauses.now 0 c.args.at c.take_unit.new.solver c.in_ok-kept-in-None.kept (c.in_ok-kept-in-None.ensures 0 c.requires.taken)

pub returns-in_ok-kept-in-None-clause-conflict : goal.returns-in_ok-kept-in-None-clause-conflict
returns-in_ok-kept-in-None-clause-conflict c =
    unit-false c.args.clauses.now 0 c.args.at c.take_unit.new.solver c.in_ok-kept-in-None.kept (c.in_ok-kept-in-None.ensures 0 c.requires.taken)
