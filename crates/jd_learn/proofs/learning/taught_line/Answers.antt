use Rattle.std.proofs.Common.{arith, ◌∙◌, ap, subst, ℤ, List}
use Rattle.jd_logic.specs.declared.Line.TheVariants.{Derive}
use Rattle.jd_logic.specs.Literals.{AreLiterals}
use Rattle.jd_propagate.specs.Levels.{negated}
use Rattle.jd_propagate.specs.Quiet.{HasNoOpposites}
use Rattle.jd_learn.proofs.Teaching.{next-line}
use Rattle.jd_learn.proofs.learning.taught_line.Goals as goal

pub returns : goal.returns
returns c =
    let r = c.requires in
    let s = c.args._solver.now in
    let kept = c.args._kept.now in
    let id = c.args.id in
    let O : List ℤ → Type 0 = λ xs. HasNoOpposites xs in
    let L : List ℤ → Type 0 = λ xs. AreLiterals xs in
    let same = ap (λ (xs : List ℤ). Derive id xs c.new-2.result) (c.new.ensures ∙ r.clause) ∙ ap (λ (ys : List ℤ). Derive id (negated kept) ys) c.new-2.ensures in
    next-line c.args._clauses.now s kept c.args.hints.items _ id r.quiet (subst O c.literals-literals.ensures.same c.literals-literals.ensures.orderly.no_opposites) r.giving same r.right
    (record { id_in = record { not_zero = omega (arith, r.next); bounded = omega (arith, r.small) }; clause_in = subst L r.clause r.literals; hints_in = r.hints }) r.next r.small
