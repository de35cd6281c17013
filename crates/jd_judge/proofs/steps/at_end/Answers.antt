use Rattle.std.proofs.Common.{◌≡◌, ◌≤◌, length, refl, sym, subst, arith}
use Rattle.jd_problem.specs.Problems.{problem_of}
use Rattle.jd_start.specs.Starts.{start_data}
use Rattle.jd_judge.specs.Judging.{Comes, IsWitness}
use Rattle.jd_judge.proofs.Placing.{own-there, none-room}
use Rattle.jd_judge.proofs.steps.at_end.Goals as goal

pub decide-requires-clause-own : goal.decide-requires-clause-own
decide-requires-clause-own g c =
    subst (IsWitness (problem_of c.args.problem.now) c.args.judging.walk.path) (sym c.in-None.ensures.value) c.requires.judging.witness

pub decide-requires-clause-room : goal.decide-requires-clause-room
decide-requires-clause-room g c =
    let claim = g.C.Claim.holds c.args.claim.now in
    let p = problem_of c.args.problem.now in
    let old = c.args.judging in
    let path = subst (IsWitness p old.walk.path) (sym c.in-None.ensures.value) c.requires.judging.witness in
    none-room p claim old.walk old.nodes.items old.book old.starts c.requires.judging.placed path c.args.problem.now.paths_least

pub decide-requires-in-Some-clause-own : goal.decide-requires-in-Some-clause-own
decide-requires-in-Some-clause-own g c =
    let p = problem_of c.args.problem.now in
    let old = c.args.judging in
    let comes : Comes p old.walk.path (start_data c.in-Some.start) = subst (IsWitness p old.walk.path) (sym c.in-Some.ensures.value) c.requires.judging.witness in
    (comes.allowed, own-there p old.walk.path (start_data c.in-Some.start) comes c.requires.over)

pub returns-then-is_full : goal.returns-then-is_full
returns-then-is_full g c =
    let claim = g.C.Claim.holds c.args.claim.now in
    let p = problem_of c.args.problem.now in
    let old = c.args.judging in
    let comes : Comes p old.walk.path (start_data c.in-Some.start) = subst (IsWitness p old.walk.path) (sym c.in-Some.ensures.value) c.requires.judging.witness in
    let full : p.paths ≤ length old.starts = c.if-is_full.ensures.0 refl in
    let count : length old.starts ≡ p.paths = omega (arith, full, c.requires.judging.placed.few) in
    c.in_ok-step-in-Some.ensures p claim c.requires.judging.placed c.requires.over (comes.allowed, own-there p old.walk.path (start_data c.in-Some.start) comes c.requires.over) count
