use Rattle.std.proofs.Common.{◌≡◌, false, sym, ◌∙◌, subst, arith}
use Rattle.std.specs.Prelude.{All}
use Rattle.std.proofs.lemmas.List.{take_all}
use Rattle.jd_books.specs.Outcomes.{IsDifference}
use Rattle.jd_problem.specs.Problems.{problem_of}
use Rattle.jd_start.specs.declared.start.Start.{Start}
use Rattle.jd_start.specs.Starts.{start_data}
use Rattle.jd_short.specs.Differences.{is_difference}
use Rattle.jd_short.proofs.Known.{difference-is, one-more-looked-at}
use Rattle.jd_short.proofs.differences.first_difference.Goals as goal

pub returns-then-is_difference-clause-differs : goal.returns-then-is_difference-clause-differs
returns-then-is_difference-clause-differs c =
    let p = problem_of c.args.problem.now in
    subst (IsDifference p) (sym c.copy_of.ensures) (difference-is p (start_data c.start-item.result) (sym c.is_difference.ensures ∙ c.if-is_difference.true))

pub loop-start-preserved : goal.loop-start-preserved
loop-start-preserved c =
    let p = problem_of c.args.problem.now in
    one-more-looked-at (λ (s : Start). is_difference p (start_data s) ≡ false) c.args.starts.now c.loop-start.start-index c.start-item.result c.loop-start-test.true
    c.start-item.is c.loop-start.invariant (sym c.is_difference.ensures ∙ c.if-is_difference.false)

pub returns-clause-none : goal.returns-clause-none
returns-clause-none c =
    let p = problem_of c.args.problem.now in
    subst (All (λ (s : Start). is_difference p (start_data s) ≡ false)) (take_all c.loop-start.start-index c.args.starts.now (omega arith)) c.loop-start.invariant
