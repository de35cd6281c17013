use Rattle.std.proofs.Common.{arith, ◌∙◌, ap, ◌+◌, ℤ, List, [], ◌∷◌, ◌++◌}
use Rattle.jd_logic.specs.declared.Line.TheVariants.{Derive}
use Rattle.jd_learn.proofs.Turning.{refuted-at}
use Rattle.jd_learn.proofs.search.end.Goals as goal

pub returns : goal.returns
returns c =
    let cs = c.args.clauses.now in
    let s = c.args.solver.now in
    let id = c.len.result + c.len-2.result + 1 in
    let en = c.in_ok-push.ensures.items ∙ ap (λ (h : List ℤ). s.lines.items ++ Derive id c.new-2.result h ∷ []) c.new-3.ensures in
    refuted-at cs c.args._budget s.lines.items c.push.new.self.items id c.new-2.result c.args.hints.items c.requires.learning.lines (c.new-2.ensures ∙ c.new.ensures.items)
    (omega (arith, c.len.ensures, c.len-2.ensures)) (omega (arith, c.len.ensures, c.len-2.ensures, c.requires.small)) c.requires.right c.requires.hints c.requires.none_empty c.requires.few en
