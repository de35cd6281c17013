use Rattle.std.proofs.Common.{◌≡◌, ◌+◌, ◌≤◌, false, true, Some, None, length, sym, ap, ◌∙◌, subst, arith}
use Rattle.std.specs.Prelude.{is_some}
use Rattle.jd_circuit.specs.Net.{Net}
use Rattle.jd_problem.specs.Problems.{problem_of}
use Rattle.jd_walk.specs.declared.places.FirstEnd.{FirstEnd}
use Rattle.jd_walk.specs.Spots.{IsBegun, IsFor, IsReached, IsRun, StandsAfter, end_of}
use Rattle.jd_walk.proofs.Turning.{for-grown}
use Rattle.jd_walk.proofs.Ends.{of-run, second-run}
use Rattle.jd_walk.specs.Rooms.{HasRoom, HasRoomAfter, all_lines, gates_to_end}
use Rattle.jd_walk.proofs.Rooms.{room-begun, room-more, to-end-few}
use Rattle.jd_walk.proofs.runs.find_next.Goals as goal

-- the run stands as it did, where the first end has been taken out
pub second_next-requires-clause-run : goal.second_next-requires-clause-run
second_next-requires-clause-run g c =
    let p = problem_of c.args.problem.now in
    let e : end_of c.args.first.now ≡ Some c.in-Some.ended.run = ap end_of (sym c.replace-before.ensures.value ∙ c.in-Some.is) in
    subst (λ f. IsRun p c.args.c.now c.args.path.now f c.args.at.now) e c.requires.run

pub second_begins-requires : goal.second_begins-requires
second_begins-requires g c = for-grown (problem_of c.args.problem.now) c.args.c.now c.go_on.new.c c.in_ok-l-in-None.ensures.grows c.requires.inputs

pub second_next-requires-in-Over-clause-inputs : goal.second_next-requires-in-Over-clause-inputs
second_next-requires-in-Over-clause-inputs g c =
    let p = problem_of c.args.problem.now in
    subst (IsFor p) (sym c.in_ok-ended-in-Over.ensures.same) (for-grown p c.args.c.now c.go_on.new.c c.in_ok-l-in-None.ensures.grows c.requires.inputs)

pub second_next-requires-in-Over-clause-run : goal.second_next-requires-in-Over-clause-run
second_next-requires-in-Over-clause-run g c =
    let p = problem_of c.args.problem.now in
    let mid = c.go_on.new.c in
    let one = c.in_ok-l-in-None.ensures in
    let two = c.in_ok-ended-in-Over.ensures in
    let machine = c.go_on.new.at.machine in
    let e : end_of c.args.first.now ≡ None = ap end_of (sym c.replace-before.ensures.value ∙ c.in-None.is) in
    let h = subst (λ f. IsRun p c.args.c.now c.args.path.now f c.args.at.now) e c.requires.run in
    let over = subst (λ r. IsReached p false mid c.args.path.now c.go_on.new.at r) c.in-Over.is (one.reached p false c.requires.inputs h.run) in
    let stands = subst (λ r. StandsAfter mid c.args.path.now c.go_on.new.at (Some r)) c.in-Over.is one.stands in
    subst (λ n. IsRun p n c.args.path.now (Some c.in_ok-ended-in-Over.ended.run) c.second_begins.new.at) (sym two.same)
    (subst (λ (f : FirstEnd). IsRun p mid c.args.path.now (Some f.run) c.second_begins.new.at) (sym two.first)
    (second-run p mid c.args.path.now c.in-Over.end machine.content c.second_begins.new.at over (of-run p mid machine (one.memory ∙ h.memory) stands)
    (subst (λ n. IsBegun p true n c.second_begins.new.at.machine) two.same two.begun) two.left two.from))

pub returns-in-Ask-clause-run : goal.returns-in-Ask-clause-run
returns-in-Ask-clause-run g c = λ going.
    let p = problem_of c.args.problem.now in
    let one = c.in_ok-l-in-None.ensures in
    let e : end_of c.args.first.now ≡ None = ap end_of (sym c.replace-before.ensures.value ∙ c.in-None.is) in
    let h = subst (λ f. IsRun p c.args.c.now c.args.path.now f c.args.at.now) e c.requires.run in
    let r = subst (λ r. IsReached p false c.go_on.new.c c.args.path.now c.go_on.new.at r) c.in-Ask.is (one.reached p false c.requires.inputs h.run) in
    subst (λ f. IsRun p c.go_on.new.c c.args.path.now (end_of f) c.go_on.new.at) (sym c.replace-before.ensures.after)
    (record {
      placed = subst (λ r. StandsAfter c.go_on.new.c c.args.path.now c.go_on.new.at (Some r)) c.in-Ask.is one.stands;
      memory = one.memory ∙ h.memory;
      run = r.0;
      first_end = tt;
    })

pub returns-in-Ask-clause-said : goal.returns-in-Ask-clause-said
returns-in-Ask-clause-said g c =
    let p = problem_of c.args.problem.now in
    let one = c.in_ok-l-in-None.ensures in
    let e : end_of c.args.first.now ≡ None = ap end_of (sym c.replace-before.ensures.value ∙ c.in-None.is) in
    let h = subst (λ f. IsRun p c.args.c.now c.args.path.now f c.args.at.now) e c.requires.run in
    let r = subst (λ r. IsReached p false c.go_on.new.c c.args.path.now c.go_on.new.at r) c.in-Ask.is (one.reached p false c.requires.inputs h.run) in
    record { some_left = r.1; question = r.2.0; is_open = r.2.1; ask = r.3 }

-- ---- room

pub second_next-requires-clause-room : goal.second_next-requires-clause-room
second_next-requires-clause-room g c =
    let p = problem_of c.args.problem.now in
    let e : end_of c.args.first.now ≡ Some c.in-Some.ended.run = ap end_of (sym c.replace-before.ensures.value ∙ c.in-Some.is) in
    subst (λ f. HasRoom (gates_to_end p (is_some f)) (length c.args.c.now.gates) (length c.args.path.now) c.args.at.now) e c.requires.room

pub go_on-requires-clause-room : goal.go_on-requires-clause-room
go_on-requires-clause-room g c =
    let p = problem_of c.args.problem.now in
    let e : end_of c.args.first.now ≡ None = ap end_of (sym c.replace-before.ensures.value ∙ c.in-None.is) in
    let h = subst (λ f. HasRoom (gates_to_end p (is_some f)) (length c.args.c.now.gates) (length c.args.path.now) c.args.at.now) e c.requires.room in
    room-more (gates_to_end p false) all_lines (length c.args.c.now.gates) (length c.args.path.now) c.args.at.now (to-end-few p false c.args.problem.now.steps_most) h

pub second_next-requires-in-Over-clause-room : goal.second_next-requires-in-Over-clause-room
second_next-requires-in-Over-clause-room g c =
    let p = problem_of c.args.problem.now in
    let most = gates_to_end p false in
    let e : end_of c.args.first.now ≡ None = ap end_of (sym c.replace-before.ensures.value ∙ c.in-None.is) in
    let h = subst (λ f. HasRoom (gates_to_end p (is_some f)) (length c.args.c.now.gates) (length c.args.path.now) c.args.at.now) e c.requires.room in
    let over : length c.go_on.new.c.gates ≤ most =
    subst (λ r. HasRoomAfter most (length c.go_on.new.c.gates) (length c.args.path.now) c.go_on.new.at (Some r)) c.in-Over.is (c.in_ok-l-in-None.ensures.room most h) in
    let same : length c.second_begins.new.c.gates ≡ length c.go_on.new.c.gates = ap (λ (n : Net). length n.gates) c.in_ok-ended-in-Over.ensures.same in
    room-begun (gates_to_end p true) (length c.second_begins.new.c.gates) (length c.args.path.now) c.second_begins.new.at (omega (arith, over, same, c.in_ok-ended-in-Over.ensures.left)) c.in_ok-ended-in-Over.ensures.from

pub returns-in-Ask-clause-room : goal.returns-in-Ask-clause-room
returns-in-Ask-clause-room g c =
    let p = problem_of c.args.problem.now in
    let most = gates_to_end p false in
    let e : end_of c.args.first.now ≡ None = ap end_of (sym c.replace-before.ensures.value ∙ c.in-None.is) in
    let h = subst (λ f. HasRoom (gates_to_end p (is_some f)) (length c.args.c.now.gates) (length c.args.path.now) c.args.at.now) e c.requires.room in
    subst (λ f. HasRoom (gates_to_end p (is_some (end_of f))) (length c.go_on.new.c.gates) (length c.args.path.now + 1) c.go_on.new.at) (sym c.replace-before.ensures.after)
    (subst (λ r. HasRoomAfter most (length c.go_on.new.c.gates) (length c.args.path.now) c.go_on.new.at (Some r)) c.in-Ask.is (c.in_ok-l-in-None.ensures.room most h))
