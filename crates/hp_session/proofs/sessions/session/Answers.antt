use Rattle.std.proofs.Common.{rules, ◌<◌, ap, Err, arith}
use Rattle.hp_session.proofs.SoFar.{at_start, after_byte, stopped, cut_off, halted, finished}
use Rattle.hp_session.proofs.Steps.{halts_unread, finishes_unread}
use Rattle.hp_session.proofs.Ended.{ended_as}
use Rattle.hp_session.proofs.sessions.session.Goals as goal

pub loop-reading-init : goal.loop-reading-init
loop-reading-init g c = record {
  so_far = rw c.new-reading.ensures (at_start _ _);
  within = omega arith;
  line = rw c.new-reading.ensures (omega arith);
  word = rw c.new-reading.ensures (omega arith);
  read_faults = omega arith;
  write_faults = omega arith;
  calls_later = omega arith;
  calls = omega arith;
}

pub returns-in-Err-clause-read_fault : goal.returns-in-Err-clause-read_fault
returns-in-Err-clause-read_fault g c =
    let loop = c.loop-reading.invariant in
    λ _. stopped loop.so_far _ c.in-Err.ensures.byte loop.word loop.within

pub returns-in-Ok-None : goal.returns-in-Ok-None
returns-in-Ok-None g c =
    let loop = c.loop-reading.invariant in
    let told = rw c.in-Ok-None.field-0-is at c.in-Ok-None.ensures.byte in
    let e = ended_as _ _ _ _ _ (finished loop.so_far c.finish.result _ _ told.0 told.1 loop.word loop.within c.finish.ensures.finishes) in
    record {
      done = e.done;
      bad_word = e.bad_word;
      too_long = e.too_long;
      read_fault = e.read_fault;
      write_fault = e.write_fault;
      told_end = e.told_end;
      told_text = e.told_text;
      read_cause = λ end. absurd (finishes_unread _ _ _ _ c.finish.ensures.finishes end);
      write_cause = λ end. omega (arith, c.finish.ensures.cause end, loop.write_faults);
      read_faults = omega (arith, loop.read_faults, c.in-Ok-None.ensures.cause.later);
      write_faults = omega (arith, loop.write_faults, c.finish.ensures.faults);
      calls = record { later = omega (arith, loop.calls_later, c.in-Ok-None.ensures.calls.later); bound = omega (arith, loop.calls, loop.within, c.in-Ok-None.ensures.calls.bound) };
    }

pub returns-then-count-eq-LIMIT : goal.returns-then-count-eq-LIMIT
returns-then-count-eq-LIMIT g c =
    let loop = c.loop-reading.invariant in
    let told = rw c.in-Ok-Some.field-0-is at c.in-Ok-Some.ensures.byte in
    let e = ended_as _ _ _ _ _ (cut_off loop.so_far _ c.in-Ok-Some.byte told loop.word c.if-count-eq-LIMIT.true) in
    record {
      done = e.done;
      bad_word = e.bad_word;
      too_long = e.too_long;
      read_fault = e.read_fault;
      write_fault = e.write_fault;
      told_end = e.told_end;
      told_text = e.told_text;
      read_cause = search rules;
      write_cause = search rules;
      read_faults = omega (arith, loop.read_faults, c.in-Ok-Some.ensures.cause.later);
      write_faults = loop.write_faults;
      calls = record { later = omega (arith, loop.calls_later, c.in-Ok-Some.ensures.calls.later); bound = omega (arith, loop.calls, loop.within, c.in-Ok-Some.ensures.calls.bound) };
    }

pub returns-in-Err-take : goal.returns-in-Err-take
returns-in-Err-take g c =
    let loop = c.loop-reading.invariant in
    let told = rw c.in-Ok-Some.field-0-is at c.in-Ok-Some.ensures.byte in
    let within : c.loop-reading.count < 1000000 = omega (arith, loop.within, c.if-count-eq-LIMIT.false) in
    let e = ended_as _ _ _ _ _ (halted loop.so_far c.in-Err-take.end _ _ c.in-Ok-Some.byte told loop.word within c.in-Err-take.ensures.halts) in
    record {
      done = e.done;
      bad_word = e.bad_word;
      too_long = e.too_long;
      read_fault = e.read_fault;
      write_fault = e.write_fault;
      told_end = e.told_end;
      told_text = e.told_text;
      read_cause = λ end. absurd (halts_unread c.in-Ok-Some.byte _ _ _ _ c.in-Err-take.ensures.halts end);
      write_cause = λ end. omega (arith, c.in-Err-take.ensures.cause (ap Err end), loop.write_faults);
      read_faults = omega (arith, loop.read_faults, c.in-Ok-Some.ensures.cause.later);
      write_faults = omega (arith, loop.write_faults, c.take.ensures.faults);
      calls = record { later = omega (arith, loop.calls_later, c.in-Ok-Some.ensures.calls.later); bound = omega (arith, loop.calls, within, c.in-Ok-Some.ensures.calls.bound) };
    }

pub loop-reading-preserved : goal.loop-reading-preserved
loop-reading-preserved g c =
    let loop = c.loop-reading.invariant in
    let told = rw c.in-Ok-Some.field-0-is at c.in-Ok-Some.ensures.byte in
    let within : c.loop-reading.count < 1000000 = omega (arith, loop.within, c.if-count-eq-LIMIT.false) in
    let taken = c.in_default.ensures in
    record {
      so_far = after_byte loop.so_far _ _ c.in-Ok-Some.byte _ told taken.goes;
      within = omega (arith, within);
      line = omega (arith, loop.line, taken.line);
      word = taken.word;
      read_faults = omega (arith, loop.read_faults, c.in-Ok-Some.ensures.cause.later);
      write_faults = omega (arith, loop.write_faults, taken.faults);
      calls_later = omega (arith, loop.calls_later, c.in-Ok-Some.ensures.calls.later);
      calls = omega (arith, loop.calls, c.in-Ok-Some.ensures.calls.bound);
    }
