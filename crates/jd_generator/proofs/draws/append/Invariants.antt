use Rattle.std.proofs.Common.{◌≡◌, ◌+◌, ◌++◌, length, take}
use Rattle.jd_generator.specs.Draws.{codes_of}
use Rattle.jd_generator.proofs.draws.append.Given as goal

abbrev pub invariant-loop-op : goal.invariant-loop-op
invariant-loop-op l = record {
  appended : l.routine ≡ l.initial.routine ++ codes_of (take l.op-index l.ops);
  length : length l.routine ≡ length l.initial.routine + l.op-index;
}
