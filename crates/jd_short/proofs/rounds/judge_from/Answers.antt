use Rattle.std.proofs.Common.{◌≡◌, ◌-◌, ◌∙◌, length, take, drop, subst, arith}
use Rattle.std.proofs.lemmas.List.{take_all, length-drop}
use Rattle.jd_problem.specs.Problems.{problem_of}
use Rattle.jd_pieces.specs.Candidates.{candidates}
use Rattle.jd_short.specs.Shortened.{AreRefusedAt, IsRound}
use Rattle.jd_short.proofs.Turns.{all-refused}
use Rattle.jd_short.proofs.rounds.judge_from.Goals as goal

pub returns-in-Over-2 : goal.returns-in-Over-2
returns-in-Over-2 g c =
    let p = problem_of c.args.problem.now in
    let routine = c.args.routine.now in
    let k = c.min-from.result in
    let later = c.in-Over.refusals.refusals.items in
    let early = c.in-Over-2.refusals.refusals.items in
    let found = c.deref.ensures.value ∙ c.in_ok-found.ensures.value in
    let found-2 = c.deref-2.ensures.value ∙ c.in_ok-found.ensures.value in
    let slice = c.deref.result.now in
    let tail : take (length slice - k) (drop k slice) ≡ drop k slice = take_all (length slice - k) (drop k slice) (omega (arith, length-drop k slice)) in
    all-refused p routine (candidates routine) k early later c.in_ok-followed_by-in-Over-2.field-0.refusals.items
    (subst (λ xs. AreRefusedAt p routine (take k xs) early) found-2 (subst (IsRound p routine (take k c.deref-2.result.now)) c.in-Over-2.is c.in_ok-refusals-2.ensures))
    (subst (λ xs. AreRefusedAt p routine (drop k xs) later) found
    (subst (λ ys. AreRefusedAt p routine ys later) tail (subst (IsRound p routine (take (length slice - k) (drop k slice))) c.in-Over.is c.in_ok-refusals.ensures)))
    c.in_ok-followed_by-in-Over-2.ensures
