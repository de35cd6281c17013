use Rattle.std.proofs.Common.{◌∙◌, ap, slice_index}
use Rattle.hp_model.specs.Press.{Calculator}
use Rattle.hp_model.proofs.KeptByKeys.{pressed_all-nibble}
use Rattle.hp_run.specs.Seen.{calculator_of}
use Rattle.hp_run.proofs.Pressed.{one_more, no_more}
use Rattle.hp_run.proofs.Registers.{kept_register}
use Rattle.hp_run.proofs.presses.press_all.Goals as goal

pub loop-key-preserved : goal.loop-key-preserved
loop-key-preserved c = one_more c.args.keys.now c.loop-key.key-index _ _ _ _ c.loop-key-test.true c.press.ensures.pressed c.loop-key.invariant

pub returns-clause-registers : goal.returns-clause-registers
returns-clause-registers c size register unwritten =
    let done = no_more c.args.keys.now c.loop-key.key-index _ _ c.loop-key-test.false c.loop-key.invariant in
    kept_register size register c.args.calculator.now.machine.memory.nibbles c.loop-key.calculator.machine.memory.nibbles (λ j inside.
    ap (λ (s : Calculator). slice_index s.machine.contents.nibbles j) done ∙ pressed_all-nibble c.args.keys.now (calculator_of c.args.calculator.now) j (unwritten j inside))
