use Rattle.std.proofs.Common.{refl, ◌∙◌, ap, ℤ, [], ◌∷◌, ◌++◌, w32}
use Rattle.std.proofs.lemmas.Int.{to_z-of_z}
use Rattle.jd_learn.proofs.Teaching.{begun-unit}
use Rattle.jd_learn.proofs.learning.add_unit.Goals as goal

pub returns-clause-begun : goal.returns-clause-begun
returns-clause-begun c =
    let s = c.args.solver.now in
    let l = c.args.l in
    let m = c.in_ok-make_true.ensures in
    let et = m.trail ∙ ap (λ (x : ℤ). s.trail ++ x ∷ []) (to_z-of_z w32 l c.ranges.l) in
    begun-unit c.args._clauses.now s c.requires.quiet (l ∷ []) c.args.line c.args.id c.requires.line l c.requires.open c.make_true.new.trail c.push.new.self et c.in_ok-push.ensures.items
    c.make_true.new.reasons refl m.reasons c.requires.first
