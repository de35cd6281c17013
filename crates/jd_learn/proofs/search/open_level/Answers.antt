use Rattle.std.proofs.Common.{◌∙◌, ap, ℕ, [], ◌∷◌, ◌++◌}
use Rattle.jd_learn.proofs.Growing.{begun-opened}
use Rattle.jd_learn.proofs.search.open_level.Goals as goal

pub returns-clause-begun : goal.returns-clause-begun
returns-clause-begun c =
    let s = c.args.solver.now in
    let el = c.in_ok-push.ensures.items ∙ ap (λ (n : ℕ). s.limits.items ++ n ∷ []) c.len.ensures in
    begun-opened c.args._clauses.now s c.push.new.self c.requires el
