use Rattle.std.proofs.Common.{◌∙◌, Some, sym, ap, subst}
use Rattle.jd_problem.specs.Problems.{problem_of}
use Rattle.jd_books.specs.Paths.{AsksAfter, OverAfter}
use Rattle.jd_walk.specs.Walked.{NextIs, Walked, has_asked, is_done}
use Rattle.jd_judge.specs.Judging.{IsWitness}
use Rattle.jd_judge.proofs.Placing.{said-placed}
use Rattle.jd_judge.proofs.steps.step.Goals as goal

pub at_question-requires-clause-asked : goal.at_question-requires-clause-asked
at_question-requires-clause-asked g c =
    ap (λ (w : Walked). has_asked w.next) c.in_ok-next.ensures.walk ∙ ap (λ n. has_asked (Some n)) c.in-Ask.is

pub at_question-requires-clause-asks : goal.at_question-requires-clause-asks
at_question-requires-clause-asks g c =
    let said = c.in_ok-next.ensures in
    let w = c.next.new.self in
    subst (λ q. AsksAfter q w.path) (ap (λ (k : Walked). k.problem) said.walk ∙ c.requires.judging.placed.problem) (subst (NextIs w) c.in-Ask.is said.said).asks

pub at_question-requires-clause-placed : goal.at_question-requires-clause-placed
at_question-requires-clause-placed g c =
    let claim = g.C.Claim.holds c.args.claim.now in
    let said = c.in_ok-next.ensures in
    let old = c.args.judging in
    said-placed (problem_of c.args.problem.now) claim old.walk c.next.new.self old.nodes.items old.book old.starts c.requires.judging.placed
    (ap (λ (k : Walked). k.problem) said.walk) (ap (λ (k : Walked). k.path) said.walk) (ap (λ (k : Walked). k.spent) said.walk)

pub at_end-requires-clause-done : goal.at_end-requires-clause-done
at_end-requires-clause-done g c =
    ap (λ (w : Walked). is_done w.next) c.in_ok-next.ensures.walk ∙ ap (λ n. is_done (Some n)) c.in-Done.is

pub at_end-requires-clause-over : goal.at_end-requires-clause-over
at_end-requires-clause-over g c =
    let said = c.in_ok-next.ensures in
    let w = c.next.new.self in
    subst (λ q. OverAfter q w.path) (ap (λ (k : Walked). k.problem) said.walk ∙ c.requires.judging.placed.problem) (subst (NextIs w) c.in-Done.is said.said).over

pub at_end-requires-clause-judging : goal.at_end-requires-clause-judging
at_end-requires-clause-judging g c =
    let claim = g.C.Claim.holds c.args.claim.now in
    let said = c.in_ok-next.ensures in
    let old = c.args.judging in
    record {
      placed = said-placed (problem_of c.args.problem.now) claim old.walk c.next.new.self old.nodes.items old.book old.starts c.requires.judging.placed
          (ap (λ (k : Walked). k.problem) said.walk) (ap (λ (k : Walked). k.path) said.walk) (ap (λ (k : Walked). k.spent) said.walk);
      witness = subst (λ q. IsWitness (problem_of c.args.problem.now) q old.witness) (sym (ap (λ (k : Walked). k.path) said.walk)) c.requires.judging.witness;
    }
