-- Jumps leave the data as it is.
use Rattle.std.proofs.Common.{◌≡◌, Bool, true, false, List, refl, if◌then◌else◌}
use Rattle.hp_model.specs.State.{Control, Data}
use Rattle.hp_model.specs.ControlStep.{control_step}
use Rattle.hp_model.specs.DataStep.{data_step, is_error}
use Rattle.hp_ops.specs.declared.groups.Jump.{Jump}
use Rattle.hp_ops.specs.declared.groups.Jump.TheVariants as jump
use Rattle.hp_ops.specs.Meaning.{of_jump}

either_way : (errs : Bool) (d : Data) → (if errs then d else d) ≡ d
either_way true d = refl
either_way false d = refl

pub jump_leaves : (c : Control) (op : Jump) (given : List Bool) (d : Data) → data_step c (of_jump op) given d ≡ d
jump_leaves c (jump.Label label) given d = either_way (is_error (control_step c (of_jump (jump.Label label)) given).1) d
jump_leaves c (jump.Goto to) given d = either_way (is_error (control_step c (of_jump (jump.Goto to)) given).1) d
jump_leaves c (jump.Gosub to) given d = either_way (is_error (control_step c (of_jump (jump.Gosub to)) given).1) d
jump_leaves c jump.Return given d = either_way (is_error (control_step c (of_jump jump.Return) given).1) d
jump_leaves c jump.Pause given d = either_way (is_error (control_step c (of_jump jump.Pause) given).1) d
jump_leaves c jump.RunStop given d = either_way (is_error (control_step c (of_jump jump.RunStop) given).1) d
