use Rattle.std.proofs.Common.{◌≡◌, Some, refl, ap, sym, ◌∙◌, subst}
use Rattle.jd_books.specs.Trees.{leaf_fault}
use Rattle.jd_books.specs.Checks.{log_end_from}
use Rattle.jd_logic.specs.Checking.{begun}
use Rattle.jd_check.proofs.Progressing.{leaf-wrong, opened}
use Rattle.jd_check.proofs.nodes.open.Goals as goal

pub returns-then-not-branch-clause-opened : goal.returns-then-not-branch-clause-opened
returns-then-not-branch-clause-opened g c = λ p nodes going h log.
    let may = c.in_ok-may_stand.ensures in
    let old = c.args.run.now in
    leaf-wrong p nodes c.args.kind log old going h (subst (λ q. leaf_fault q old.walk.path c.args.kind ≡ Some old.walk.path) h.problem (may.wrong c.if-not-branch.true))
    ∙ ap Some (sym (c.in_ok-of.ensures ∙ c.path.ensures ∙ may.path))

pub returns-clause-opened : goal.returns-clause-opened
returns-clause-opened g c = λ p nodes going h.
    let may = c.in_ok-may_stand.ensures in
    opened p nodes c.args.kind c.args.run.now _ _ going h may.problem may.path may.unspent refl refl refl refl (may.right c.if-not-branch.false) c.in_ok-leaf.ensures
    (λ rest. sym (c.in_ok-check.ensures.start rest ∙ ap (λ cs. log_end_from (begun cs) 1 rest) c.in_ok-clauses.ensures))
