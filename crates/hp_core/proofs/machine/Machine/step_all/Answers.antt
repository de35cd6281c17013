use Rattle.std.proofs.Common.{◌≡◌, map, ap, ◌∙◌, slice_index}
use Rattle.std.proofs.lemmas.List.{drop_all}
use Rattle.hp_model.specs.WrittenNibbles.{operated_all}
use Rattle.hp_model.proofs.Registers.{same_register}
use Rattle.hp_model.proofs.KeptByKeys.{operated_all-nibble}
use Rattle.hp_ops.specs.Meaning.{operation}
use Rattle.hp_core.specs.Machines.{machine_of}
use Rattle.hp_core.proofs.machine.Machine.step_all.Goals as goal

pub returns-clause-restored : goal.returns-clause-restored
returns-clause-restored c w r unwritten =
    let done : machine_of c.loop-op.self ≡ operated_all (map operation c.args.ops.now) (machine_of c.args.self.now) =
    rw (drop_all c.loop-op.op-index c.args.ops.now c.loop-op-test.false) at c.loop-op.invariant.left in
    same_register w r _ _ (λ j here.
    ap (λ m. slice_index m.contents.nibbles j) done ∙ operated_all-nibble (map operation c.args.ops.now) (machine_of c.args.self.now) j (unwritten j here))
