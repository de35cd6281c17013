use Rattle.std.proofs.Common.{◌≤◌, Some, true, length, ◌∙◌, subst, arith}
use Rattle.jd_problem.specs.Problems.{problem_of}
use Rattle.jd_symbolic.proofs.Standing.{stands_grown}
use Rattle.jd_walk.specs.Spots.{IsReached, StandsAfter}
use Rattle.jd_walk.proofs.Turning.{for-grown}
use Rattle.jd_walk.proofs.Ends.{done-here, first-grown, of-run, of-run-grown, over-grown}
use Rattle.jd_walk.specs.Rooms.{HasRoomAfter, all_lines, gates_to_end}
use Rattle.jd_walk.proofs.Rooms.{room-more, to-end-few}
use Rattle.jd_walk.proofs.runs.second_next.Goals as goal

pub difference-requires-clause-first : goal.difference-requires-clause-first
difference-requires-clause-first g c =
    of-run-grown (problem_of c.args.problem.now) c.args.c.now c.go_on.new.c c.args.first.now.content c.in_ok-l.ensures.grows c.requires.run.first_end.inside

pub difference-requires-clause-second : goal.difference-requires-clause-second
difference-requires-clause-second g c =
    of-run (problem_of c.args.problem.now) c.go_on.new.c c.go_on.new.at.machine (c.in_ok-l.ensures.memory ∙ c.requires.run.memory)
    (subst (λ r. StandsAfter c.go_on.new.c c.args.path.now c.go_on.new.at (Some r)) c.in-Over.is c.in_ok-l.ensures.stands)

pub returns-in-Ask-clause-run : goal.returns-in-Ask-clause-run
returns-in-Ask-clause-run g c = λ going.
    let p = problem_of c.args.problem.now in
    let mid = c.go_on.new.c in
    let one = c.in_ok-l.ensures in
    let r = subst (λ r. IsReached p true mid c.args.path.now c.go_on.new.at r) c.in-Ask.is (one.reached p true c.requires.inputs c.requires.run.run) in
    record {
      placed = subst (λ r. StandsAfter mid c.args.path.now c.go_on.new.at (Some r)) c.in-Ask.is one.stands;
      memory = one.memory ∙ c.requires.run.memory;
      run = r.0;
      first_end = first-grown p c.args.c.now mid c.args.path.now c.args.first.now c.requires.inputs one.grows c.requires.run.first_end;
    }

pub returns-in-Ask-clause-said : goal.returns-in-Ask-clause-said
returns-in-Ask-clause-said g c =
    let p = problem_of c.args.problem.now in
    let r = subst (λ r. IsReached p true c.go_on.new.c c.args.path.now c.go_on.new.at r) c.in-Ask.is (c.in_ok-l.ensures.reached p true c.requires.inputs c.requires.run.run) in
    record { some_left = r.1; question = r.2.0; is_open = r.2.1; ask = r.3 }

pub returns-in_ok-l-in-Over-clause-said : goal.returns-in_ok-l-in-Over-clause-said
returns-in_ok-l-in-Over-clause-said g c =
    let p = problem_of c.args.problem.now in
    let mid = c.go_on.new.c in
    let net = c.difference.new.c in
    let one = c.in_ok-l.ensures in
    let two = c.in_ok-l-in-Over.ensures in
    let here = for-grown p c.args.c.now mid one.grows c.requires.inputs in
    let machine = c.go_on.new.at.machine in
    let over = subst (λ r. IsReached p true mid c.args.path.now c.go_on.new.at r) c.in-Over.is (one.reached p true c.requires.inputs c.requires.run.run) in
    let stands = subst (λ r. StandsAfter mid c.args.path.now c.go_on.new.at (Some r)) c.in-Over.is one.stands in
    let first = first-grown p c.args.c.now mid c.args.path.now c.args.first.now c.requires.inputs one.grows c.requires.run.first_end in
    done-here p net c.args.path.now c.args.first.now c.in-Over.end machine.content c.in_ok-l-in-Over.l (for-grown p mid net two.grows here) two.wired
    (first-grown p mid net c.args.path.now c.args.first.now here two.grows first) (over-grown p true mid net c.args.path.now c.in-Over.end machine here two.grows stands over) two.of two.means

pub returns-in_ok-l-in-Over-clause-ends : goal.returns-in_ok-l-in-Over-clause-ends
returns-in_ok-l-in-Over-clause-ends g c =
    let p = problem_of c.args.problem.now in
    let mid = c.go_on.new.c in
    let net = c.difference.new.c in
    let one = c.in_ok-l.ensures in
    let two = c.in_ok-l-in-Over.ensures in
    let here = for-grown p c.args.c.now mid one.grows c.requires.inputs in
    let machine = c.go_on.new.at.machine in
    let over = subst (λ r. IsReached p true mid c.args.path.now c.go_on.new.at r) c.in-Over.is (one.reached p true c.requires.inputs c.requires.run.run) in
    let stands = subst (λ r. StandsAfter mid c.args.path.now c.go_on.new.at (Some r)) c.in-Over.is one.stands in
    let first = first-grown p c.args.c.now mid c.args.path.now c.args.first.now c.requires.inputs one.grows c.requires.run.first_end in
    record {
      first_end = first-grown p mid net c.args.path.now c.args.first.now here two.grows first;
      second_end = over-grown p true mid net c.args.path.now c.in-Over.end machine here two.grows stands over;
      stands = stands_grown mid net machine two.grows stands;
    }

-- ---- room

pub go_on-requires-clause-room : goal.go_on-requires-clause-room
go_on-requires-clause-room g c =
    let p = problem_of c.args.problem.now in
    room-more (gates_to_end p true) all_lines (length c.args.c.now.gates) (length c.args.path.now) c.args.at.now (to-end-few p true c.args.problem.now.steps_most) c.requires.room

pub difference-requires-clause-room : goal.difference-requires-clause-room
difference-requires-clause-room g c =
    let p = problem_of c.args.problem.now in
    let most = gates_to_end p true in
    let over : length c.go_on.new.c.gates ≤ most =
    subst (λ r. HasRoomAfter most (length c.go_on.new.c.gates) (length c.args.path.now) c.go_on.new.at (Some r)) c.in-Over.is (c.in_ok-l.ensures.room most c.requires.room) in
    let few = to-end-few p true c.args.problem.now.steps_most in
    omega (arith, over, few)

pub returns-in-Ask-clause-room : goal.returns-in-Ask-clause-room
returns-in-Ask-clause-room g c =
    let most = gates_to_end (problem_of c.args.problem.now) true in
    subst (λ r. HasRoomAfter most (length c.go_on.new.c.gates) (length c.args.path.now) c.go_on.new.at (Some r)) c.in-Ask.is (c.in_ok-l.ensures.room most c.requires.room)

pub returns-in_ok-l-in-Over-clause-room : goal.returns-in_ok-l-in-Over-clause-room
returns-in_ok-l-in-Over-clause-room g c =
    let most = gates_to_end (problem_of c.args.problem.now) true in
    let over : length c.go_on.new.c.gates ≤ most =
    subst (λ r. HasRoomAfter most (length c.go_on.new.c.gates) (length c.args.path.now) c.go_on.new.at (Some r)) c.in-Over.is (c.in_ok-l.ensures.room most c.requires.room) in
    omega (arith, over, c.in_ok-l-in-Over.ensures.more)
