use Rattle.std.proofs.Common.{◌≡◌, ◌+◌, ◌-◌, true, drop, length, sym, take, arith, subst}
use Rattle.hp_model.specs.Questions.{are_complete}
use Rattle.jd_books.specs.Paths.{line_questions}
use Rattle.jd_symbolic.specs.Machine.{state_of}
use Rattle.hp_control.proofs.SoFar.{so_far_all}
use Rattle.jd_symbolic.proofs.Standing.{stands_grown}
use Rattle.jd_walk.specs.NextLine.{LineSteps, StandsAtLine}
use Rattle.jd_walk.specs.declared.runs.Reach.TheVariants.{Ask}
use Rattle.jd_walk.specs.Spots.{IsPlaced, IsReached}
use Rattle.jd_walk.proofs.Answering.{placed-at_line}
use Rattle.jd_walk.proofs.NextLines.{memory-kept, stands-on}
use Rattle.jd_walk.proofs.Turning.{asked-is, reached-ask, reached-end, reached-late, rest-is, stepped-is, turned-go, with-machine}
use Rattle.jd_walk.proofs.Ends.{placed-grown}
use Rattle.jd_walk.specs.Rooms.{HasRoom, all_lines}
use Rattle.jd_walk.proofs.Rooms.{none-asked, room-asked, room-end, room-fits, room-line}
use Rattle.jd_walk.proofs.runs.turn.Goals as goal

pub line_step-requires-clause-stands : goal.line_step-requires-clause-stands
line_step-requires-clause-stands g c =
    let at = c.args.at.now in
    subst (StandsAtLine c.line_asks.new.c) (sym c.in_ok-l.ensures.machine)
    (record { stands = stands_grown c.args.c.now c.line_asks.new.c at.machine c.in_ok-l.ensures.grows c.requires.placed.machine.stands; line = c.requires.placed.machine.line })

pub line_step-requires-clause-complete : goal.line_step-requires-clause-complete
line_step-requires-clause-complete g c =
    let at = c.args.at.now in
    let asks = asked-is c.line_asks.new.c at.machine at.from c.args.path.now c.in_ok-l.field-0 c.in_ok-l.ensures.asks in
    subst (λ m. are_complete (line_questions (state_of m)) (take (length c.args.path.now - at.from) (drop at.from c.args.path.now)) ≡ true) (sym c.in_ok-l.ensures.machine)
    (subst (λ given. are_complete (line_questions (state_of at.machine)) given ≡ true) (sym (rest-is at.from c.args.path.now))
    (so_far_all (line_questions (state_of at.machine)) (drop at.from c.args.path.now) c.requires.placed.so_far (asks.none c.in_default.is)))

pub returns-then-at-eq0-clause-turned : goal.returns-then-at-eq0-clause-turned
returns-then-at-eq0-clause-turned g c = λ p second n h. reached-late p second c.args.c.now c.args.path.now c.args.at.now (omega (arith, c.if-at-eq0.true)) h

pub returns-in-Some-clause-stands : goal.returns-in-Some-clause-stands
returns-in-Some-clause-stands g c =
    with-machine (IsPlaced c.line_asks.new.c c.args.path.now) c.args.at.now c.line_asks.new.machine c.in_ok-l.ensures.machine
    (placed-grown c.args.c.now c.line_asks.new.c c.args.path.now c.args.at.now c.in_ok-l.ensures.grows c.requires.placed)

pub returns-in-Some-clause-turned : goal.returns-in-Some-clause-turned
returns-in-Some-clause-turned g c = λ p second n h.
    let at = c.args.at.now in
    with-machine (λ k. IsReached p second c.line_asks.new.c c.args.path.now k (Ask c.in-Some.l)) at c.line_asks.new.machine c.in_ok-l.ensures.machine
    (reached-ask p second c.args.c.now c.line_asks.new.c c.args.path.now at c.in_ok-l.field-0 c.in-Some.l n c.in_ok-l.ensures.grows c.in_ok-l.ensures.wired c.requires.placed.machine.stands
    (omega (arith, c.if-at-eq0.false)) (asked-is c.line_asks.new.c at.machine at.from c.args.path.now c.in_ok-l.field-0 c.in_ok-l.ensures.asks) c.in-Some.is h)

pub returns-in-Ended-clause-turned : goal.returns-in-Ended-clause-turned
returns-in-Ended-clause-turned g c = λ p second n h.
    let at = c.args.at.now in
    reached-end p second c.args.c.now c.line_asks.new.c c.line_step.new.c c.args.path.now at c.line_step.new.machine c.in_ok-l.field-0 c.in_ok-stop.stop c.in-Ended.end n
    c.in_ok-l.ensures.grows c.in_ok-stop.ensures.grows c.in_ok-stop.ensures.wired c.requires.placed.machine.stands (omega (arith, c.if-at-eq0.false))
    (asked-is c.line_asks.new.c at.machine at.from c.args.path.now c.in_ok-l.field-0 c.in_ok-l.ensures.asks) c.in_default.is
    (stepped-is c.line_step.new.c at.machine c.line_asks.new.machine c.line_step.new.machine at.from c.args.path.now c.in_ok-stop.stop c.in_ok-l.ensures.machine c.in_ok-stop.ensures.steps) c.in-Ended.is h

pub returns-in-Ended-clause-memory : goal.returns-in-Ended-clause-memory
returns-in-Ended-clause-memory g c =
    let at = c.args.at.now in
    memory-kept c.line_step.new.c at.machine c.line_step.new.machine (drop at.from c.args.path.now) c.in_ok-stop.stop
    (stepped-is c.line_step.new.c at.machine c.line_asks.new.machine c.line_step.new.machine at.from c.args.path.now c.in_ok-stop.stop c.in_ok-l.ensures.machine c.in_ok-stop.ensures.steps)

pub returns-in-Go-clause-stands : goal.returns-in-Go-clause-stands
returns-in-Go-clause-stands g c =
    let at = c.args.at.now in
    let steps = stepped-is c.line_step.new.c at.machine c.line_asks.new.machine c.line_step.new.machine at.from c.args.path.now c.in_ok-stop.stop c.in_ok-l.ensures.machine c.in_ok-stop.ensures.steps in
    placed-at_line c.line_step.new.c c.args.path.now c.line_step.new.machine (at.left - 1)
    (stands-on c.args.c.now c.line_step.new.c at.machine c.line_step.new.machine (drop at.from c.args.path.now) c.requires.placed.machine.stands
    (subst (LineSteps c.line_step.new.c at.machine c.line_step.new.machine (drop at.from c.args.path.now)) c.in-Go.is steps))

pub returns-in-Go-clause-memory : goal.returns-in-Go-clause-memory
returns-in-Go-clause-memory g c =
    let at = c.args.at.now in
    memory-kept c.line_step.new.c at.machine c.line_step.new.machine (drop at.from c.args.path.now) c.in_ok-stop.stop
    (stepped-is c.line_step.new.c at.machine c.line_asks.new.machine c.line_step.new.machine at.from c.args.path.now c.in_ok-stop.stop c.in_ok-l.ensures.machine c.in_ok-stop.ensures.steps)

pub returns-in-Go-clause-turned : goal.returns-in-Go-clause-turned
returns-in-Go-clause-turned g c = λ p second n h.
    let at = c.args.at.now in
    turned-go p second c.args.c.now c.line_asks.new.c c.line_step.new.c c.args.path.now at c.line_step.new.machine c.in_ok-l.field-0 c.in_ok-stop.stop n
    c.in_ok-l.ensures.grows c.in_ok-stop.ensures.grows c.in_ok-stop.ensures.wired c.requires.placed.machine.stands (omega (arith, c.if-at-eq0.false))
    (asked-is c.line_asks.new.c at.machine at.from c.args.path.now c.in_ok-l.field-0 c.in_ok-l.ensures.asks) c.in_default.is
    (stepped-is c.line_step.new.c at.machine c.line_asks.new.machine c.line_step.new.machine at.from c.args.path.now c.in_ok-stop.stop c.in_ok-l.ensures.machine c.in_ok-stop.ensures.steps) c.in-Go.is h

-- ---- room

pub line_asks-requires-clause-room : goal.line_asks-requires-clause-room
line_asks-requires-clause-room g c = room-fits all_lines (length c.args.c.now.gates) (length c.args.path.now) c.args.at.now (omega arith) c.requires.room

pub line_step-requires-clause-room : goal.line_step-requires-clause-room
line_step-requires-clause-room g c =
    let at = c.args.at.now in
    let none = none-asked all_lines (length c.args.c.now.gates) (length c.line_asks.new.c.gates) c.args.path.now at c.line_asks.new.c c.in_ok-l.field-0 c.in_ok-l.ensures.asks c.in_default.is c.in_ok-l.ensures.more in
    let fits = room-fits all_lines (length c.args.c.now.gates) (length c.args.path.now) at (omega arith) c.requires.room in
    omega (arith, none, fits)

pub returns-then-at-eq0-clause-room : goal.returns-then-at-eq0-clause-room
returns-then-at-eq0-clause-room g c = λ most h. h.over (omega (arith, c.if-at-eq0.true))

pub returns-in-Some-clause-room : goal.returns-in-Some-clause-room
returns-in-Some-clause-room g c = λ most h.
    let at = c.args.at.now in
    with-machine (HasRoom most (length c.line_asks.new.c.gates) (length c.args.path.now + 1)) at c.line_asks.new.machine c.in_ok-l.ensures.machine
    (room-asked most (length c.args.c.now.gates) (length c.line_asks.new.c.gates) c.args.path.now at c.line_asks.new.c c.in_ok-l.field-0 c.in-Some.l c.requires.placed.from
    (omega (arith, c.if-at-eq0.false)) c.in_ok-l.ensures.asks c.in-Some.is c.in_ok-l.ensures.more h)

pub returns-in-Ended-clause-room : goal.returns-in-Ended-clause-room
returns-in-Ended-clause-room g c = λ most h.
    let at = c.args.at.now in
    let none = none-asked most (length c.args.c.now.gates) (length c.line_asks.new.c.gates) c.args.path.now at c.line_asks.new.c c.in_ok-l.field-0 c.in_ok-l.ensures.asks c.in_default.is c.in_ok-l.ensures.more in
    room-end most (length c.args.c.now.gates) (length c.line_step.new.c.gates) (length c.args.path.now) at (omega (arith, c.if-at-eq0.false)) (omega (arith, none, c.in_ok-stop.ensures.more)) h

pub returns-in-Go-clause-room : goal.returns-in-Go-clause-room
returns-in-Go-clause-room g c = λ most h.
    let at = c.args.at.now in
    let none = none-asked most (length c.args.c.now.gates) (length c.line_asks.new.c.gates) c.args.path.now at c.line_asks.new.c c.in_ok-l.field-0 c.in_ok-l.ensures.asks c.in_default.is c.in_ok-l.ensures.more in
    room-line most (length c.args.c.now.gates) (length c.line_step.new.c.gates) (length c.args.path.now) at c.line_step.new.machine (omega (arith, c.if-at-eq0.false)) (omega (arith, none, c.in_ok-stop.ensures.more)) h
