use Rattle.std.proofs.Common.{◌∙◌, ap, ℤ, [], ◌∷◌, ◌++◌, w32}
use Rattle.std.proofs.lemmas.Int.{to_z-of_z}
use Rattle.jd_learn.proofs.Growing.{begun-decided}
use Rattle.jd_learn.proofs.search.decide.Goals as goal

pub returns-clause-begun : goal.returns-clause-begun
returns-clause-begun c =
    let s = c.args.solver.now in
    let l = c.args.l in
    let m = c.in_ok-make_true.ensures in
    let et = m.trail ∙ ap (λ (x : ℤ). s.trail ++ x ∷ []) (to_z-of_z w32 l c.ranges.l) in
    begun-decided c.args._clauses.now c.args._from l s c.make_true.new.trail c.make_true.new.reasons c.requires.begun et m.reasons
