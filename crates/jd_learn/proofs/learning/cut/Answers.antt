use Rattle.std.proofs.Common.{arith, ◌∙◌}
use Rattle.std.proofs.lemmas.List.{get_or_default}
use Rattle.jd_learn.proofs.Growing.{quiet-cut}
use Rattle.jd_learn.proofs.learning.cut.Goals as goal

pub cut-requires : goal.cut-requires
cut-requires c =
    let s = c.args.solver.now in
    let w = (c.requires.learning.rests c.args.level c.requires.level).within in
    let e = c.index-limit.ensures ∙ get_or_default s.limits.items c.args.level c.index-limit.result.now 0 c.requires.level in
    omega arith

pub returns-clause-quiet : goal.returns-clause-quiet
returns-clause-quiet c =
    let s = c.args.solver.now in
    let n = c.index-limit.result.now in
    let e = c.index-limit.ensures ∙ get_or_default s.limits.items c.args.level n 0 c.requires.level in
    quiet-cut c.args._clauses.now c.args.level n s c.cut.new.self c.truncate-2.new.self c.truncate.new.self c.requires.learning c.requires.level e c.cut.ensures c.truncate-2.ensures.items c.truncate.ensures.items
