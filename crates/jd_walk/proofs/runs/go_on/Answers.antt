use Rattle.std.proofs.Common.{◌∙◌, length, subst}
use Rattle.jd_circuit.proofs.Values.{grows_trans}
use Rattle.jd_walk.specs.Rooms.{HasRoomAfter, all_lines}
use Rattle.jd_walk.specs.Spots.{IsTurned, StandsAfter}
use Rattle.jd_walk.proofs.Turning.{for-grown}
use Rattle.jd_walk.proofs.runs.go_on.Goals as goal

pub returns-in-Some-clause-stands : goal.returns-in-Some-clause-stands
returns-in-Some-clause-stands g c = subst (StandsAfter c.turn.new.c c.args.path.now c.turn.new.at) c.in-Some.is c.in_ok-reach.ensures.stands

pub returns-in-Some-clause-memory : goal.returns-in-Some-clause-memory
returns-in-Some-clause-memory g c = c.in_ok-reach.ensures.memory ∙ c.lines.invariant.memory

pub returns-in-Some-clause-reached : goal.returns-in-Some-clause-reached
returns-in-Some-clause-reached g c = λ p second n h.
    let i = c.lines.invariant in
    subst (λ r. IsTurned p second c.turn.new.c c.args.path.now c.turn.new.at r) c.in-Some.is
    (c.in_ok-reach.ensures.turned p second (for-grown p c.args.c.now c.lines.c i.grows n) (i.at p second n h))

pub lines-preserved : goal.lines-preserved
lines-preserved g c =
    let i = c.lines.invariant in
    record {
      grows = grows_trans c.args.c.now c.lines.c c.turn.new.c i.grows c.in_ok-reach.ensures.grows;
      placed = subst (StandsAfter c.turn.new.c c.args.path.now c.turn.new.at) c.in_default.is c.in_ok-reach.ensures.stands;
      memory = c.in_ok-reach.ensures.memory ∙ i.memory;
      room = λ most h. subst (HasRoomAfter most (length c.turn.new.c.gates) (length c.args.path.now) c.turn.new.at) c.in_default.is (c.in_ok-reach.ensures.room most (i.room most h));
      at = λ p second n h.
          subst (λ r. IsTurned p second c.turn.new.c c.args.path.now c.turn.new.at r) c.in_default.is
          (c.in_ok-reach.ensures.turned p second (for-grown p c.args.c.now c.lines.c i.grows n) (i.at p second n h));
    }

pub turn-requires-clause-room : goal.turn-requires-clause-room
turn-requires-clause-room g c = c.lines.invariant.room all_lines c.requires.room

pub returns-in-Some-clause-room : goal.returns-in-Some-clause-room
returns-in-Some-clause-room g c = λ most h.
    subst (HasRoomAfter most (length c.turn.new.c.gates) (length c.args.path.now) c.turn.new.at) c.in-Some.is (c.in_ok-reach.ensures.room most (c.lines.invariant.room most h))
