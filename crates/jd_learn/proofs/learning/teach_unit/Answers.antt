use Rattle.std.proofs.Common.{rules, arith, refl, ◌≡◌, ◌∙◌, ap, subst, ◌+◌, ℤ, w32, to_z, of_z, List}
use mir.Val.{SFits}
use Rattle.std.proofs.lemmas.Int.{to_z-of_z}
use Rattle.jd_propagate.specs.Levels.{negated}
use Rattle.jd_learn.specs.Teaching.{IsNextLine}
use Rattle.jd_learn.proofs.Lessons.{alone, read-negated}
use Rattle.jd_learn.proofs.learning.teach_unit.Goals as goal

pub add_unit-requires-clause-line : goal.add_unit-requires-clause-line
add_unit-requires-clause-line c =
    let s = c.args.solver.now in
    let kept = c.args.taught.kept.items in
    let il = c.index-last.result.now in
    let f : SFits w32 il = search rules in
    let one = c.requires.one in
    let lits : c.in_ok-literals.literals.items ≡ negated kept = c.in_ok-literals.ensures.same ∙ ap negated c.as_slice.ensures.value in
    let ea = to_z-of_z w32 il f ∙ read-negated kept c.in_ok-literals.literals.items 0 0 il lits c.index-last.ensures refl (omega (arith, one)) in
    let P : List ℤ → Type 0 = λ xs. IsNextLine c.args.clauses.now s c.taught_line-line.result xs (c.len.result + c.len-2.result + 1) in
    subst P (ap negated c.as_slice-2.ensures.value ∙ alone kept (to_z w32 (of_z w32 il)) one ea) c.taught_line-line.ensures
