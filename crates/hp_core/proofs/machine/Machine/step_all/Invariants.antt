use Rattle.std.proofs.Common.{◌≡◌, drop, map}
use Rattle.hp_model.specs.WrittenNibbles.{operated_all}
use Rattle.hp_ops.specs.Meaning.{operation}
use Rattle.hp_core.specs.FromLines.{AreFromLines}
use Rattle.hp_core.specs.Machines.{machine_of}
use Rattle.hp_core.proofs.machine.Machine.step_all.Given as goal

-- what is left to do, done to the machine, gives what all of it gives, and can be done
abbrev pub invariant-loop-op : goal.invariant-loop-op
invariant-loop-op l = record {
  left : operated_all (map operation (drop l.op-index l.ops)) (machine_of l.self) ≡ operated_all (map operation l.ops) (machine_of l.fn.self);
  can : AreFromLines (map operation (drop l.op-index l.ops)) (machine_of l.self);
}
