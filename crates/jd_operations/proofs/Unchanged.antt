-- Operations that leave the data as they are.
use Rattle.std.proofs.Common.{◌≡◌, ℕ, Bool, List, refl, sym}
use Rattle.hp_model.specs.Operations.{Operation}
use Rattle.hp_model.specs.Operations as ops
use Rattle.hp_model.specs.State.{Control as ControlState, Data}
use Rattle.hp_model.specs.DataStep.{changed}
use Rattle.hp_ops.specs.Meaning.{condition, of_jump, of_windows}
use Rattle.hp_ops.specs.declared.groups.Test.{Test}
use Rattle.hp_ops.specs.declared.groups.Jump.{Jump}
use Rattle.hp_ops.specs.declared.groups.Jump.TheVariants as jump
use Rattle.hp_ops.specs.declared.groups.Windows.{Windows}
use Rattle.hp_ops.specs.declared.groups.Windows.TheVariants as windows
use Rattle.hp_control.specs.declared.control.Control.{Control}
use Rattle.hp_control.specs.Controls.{control_of, size_after}
use Rattle.jd_circuit.specs.Net.{Net, variables}
use Rattle.jd_content.specs.declared.content.SymContent.{SymContent}
use Rattle.jd_content.specs.Meaning.{Fits, data_on}
use Rattle.jd_content.proofs.Alone.{alone}
use Rattle.jd_operations.specs.Done.{IsDone}
use Rattle.jd_operations.proofs.Sizes.{done_at}

pub unchanged : (net : Net) (control : Control) (op : Operation) (given : List Bool) (content : SymContent) → size_after op given control.size.bits ≡ control.size.bits
    → ((k : ControlState) (d : Data) → changed k op given d ≡ d) → Fits (variables net) control.size.bits content
    → IsDone net net control op given (size_after op given control.size.bits) content content
unchanged net control op given content size same h = done_at net net control op given _ _ content content size (λ listing bounded none.
    alone net (control_of control listing) op given _ content content (λ val e. sym (same (control_of control listing) (data_on val content))) h refl)

-- ---- jumps

jump-size : (op : Jump) (given : List Bool) (w : ℕ) → size_after (of_jump op) given w ≡ w
jump-size (jump.Label label) given w = refl
jump-size (jump.Goto to) given w = refl
jump-size (jump.Gosub to) given w = refl
jump-size jump.Return given w = refl
jump-size jump.Pause given w = refl
jump-size jump.RunStop given w = refl

jump-same : (op : Jump) (given : List Bool) (k : ControlState) (d : Data) → changed k (of_jump op) given d ≡ d
jump-same (jump.Label label) given k d = refl
jump-same (jump.Goto to) given k d = refl
jump-same (jump.Gosub to) given k d = refl
jump-same jump.Return given k d = refl
jump-same jump.Pause given k d = refl
jump-same jump.RunStop given k d = refl

pub jump-unchanged : (op : Jump) (net : Net) (control : Control) (given : List Bool) (content : SymContent) → Fits (variables net) control.size.bits content
    → IsDone net net control (of_jump op) given (size_after (of_jump op) given control.size.bits) content content
jump-unchanged op net control given content h = unchanged net control (of_jump op) given content (jump-size op given control.size.bits) (jump-same op given) h

-- ---- windows

windows-size : (op : Windows) (given : List Bool) (w : ℕ) → size_after (of_windows op) given w ≡ w
windows-size (windows.Show window) given w = refl
windows-size windows.Left given w = refl
windows-size windows.Right given w = refl

windows-same : (op : Windows) (given : List Bool) (k : ControlState) (d : Data) → changed k (of_windows op) given d ≡ d
windows-same (windows.Show window) given k d = refl
windows-same windows.Left given k d = refl
windows-same windows.Right given k d = refl

pub windows-unchanged : (op : Windows) (net : Net) (control : Control) (given : List Bool) (content : SymContent) → Fits (variables net) control.size.bits content
    → IsDone net net control (of_windows op) given (size_after (of_windows op) given control.size.bits) content content
windows-unchanged op net control given content h = unchanged net control (of_windows op) given content (windows-size op given control.size.bits) (windows-same op given) h

-- ---- tests

pub test-unchanged : (op : Test) (net : Net) (control : Control) (given : List Bool) (content : SymContent) → Fits (variables net) control.size.bits content
    → IsDone net net control (ops.test (condition op)) given (size_after (ops.test (condition op)) given control.size.bits) content content
test-unchanged op net control given content h = unchanged net control (ops.test (condition op)) given content refl (λ k d. refl) h
