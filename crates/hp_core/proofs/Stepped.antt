-- What every operation keeps.
use Rattle.std.proofs.Common.{◌≡◌, ℕ, ◌+◌, ◌≤◌, false, Bool, List, [], ◌∷◌, length, slice_index, subst, sym, ap, ◌∙◌}
use Rattle.std.specs.Prelude.{All}
use Rattle.std.proofs.lemmas.List.Elements.{All-head, All-tail}
use Rattle.hp_model.specs.declared.Stop.{Stop}
use Rattle.hp_model.specs.declared.Stop.TheVariants.{Go}
use Rattle.hp_model.specs.Operations.{Operation}
use Rattle.hp_model.specs.State.{Control, Data}
use Rattle.hp_model.specs.DataStep.{data_step}
use Rattle.hp_model.specs.ControlStep.{control_step}
use Rattle.hp_model.specs.Run.{Step, operated}
use Rattle.hp_model.specs.WrittenNibbles.{writes}
use Rattle.hp_model.proofs.KeptNibbles.{step-nibble}
use Rattle.hp_model.specs.Questions.{answers}
use Rattle.hp_model.proofs.Kept.{KeepsProgram, control_step-keeps}
use Rattle.hp_model.specs.Laws.{Stands, are_lines}
use Rattle.hp_model.proofs.GoesOn.{control_step-goes}
use Rattle.hp_core.specs.declared.machine.Machine.{Machine}
use Rattle.hp_core.specs.Machines.{Changes, Steps, KeepsLines, control_of, data_of, machine_of, step_of}

-- an operation is what it changes in the data, and then in control
pub stepped : (old mid new : Machine) (stop : Stop) (op : Operation) (given : List Bool) → Changes old mid op given
    → control_step (control_of mid) op given ≡ (control_of new, stop) → data_of new ≡ data_of mid → Steps old new stop op
stepped old mid new stop op given changes decided same = record {
  control = ap (λ g. control_step (control_of old) op g) (sym changes.answers) ∙ ap (λ k. control_step k op given) (sym changes.control) ∙ decided;
  contents = ap (λ g. data_step (control_of old) op g (data_of old)) (sym changes.answers) ∙ changes.contents ∙ sym same;
}

-- no operation changes a line
pub stepped_keeps : (old new : Machine) (stop : Stop) (op : Operation) → Steps old new stop op → KeepsLines old new
stepped_keeps old new stop op s =
    let Keeps : Control × Stop → Type 0 = λ r. KeepsProgram (control_of old) r.0 in
    let kept = subst Keeps s.control (control_step-keeps (control_of old) op (answers (control_of old) op (data_of old))) in
    record { program = kept.program; blocks = kept.blocks }

lines_of_all : (last : ℕ) (calls : List ℕ) → All (λ line. (1 ≤ line) × (line ≤ last)) calls → are_lines calls
lines_of_all last [] h = tt
lines_of_all last (line ∷ calls) h =
    let Within : ℕ → Type 0 = λ i. (1 ≤ i) × (i ≤ last) in
    let first : Within line = All-head Within line calls h in
    (first.0, lines_of_all last calls (All-tail Within line calls h))

-- an operation that goes on goes on at a line from 1 on, where it began at one
pub stepped_goes : (old new : Machine) (stop : Stop) (op : Operation) → Steps old new stop op → stop ≡ Go → 1 ≤ old.control.line → 1 ≤ new.control.line
stepped_goes old new stop op s goes from_line =
    let begins : Stands (control_of old) = record { line = from_line; calls = lines_of_all (length old.memory.program + 1) old.control.calls old.calls_bound } in
    let Goes : Control × Stop → Type 0 = λ r. r.1 ≡ Go → Stands r.0 in
    let ends = subst Goes s.control (λ e. control_step-goes (control_of old) op (answers (control_of old) op (data_of old)) begins e) goes in
    ends.line

-- an operation is the machine's
pub stepped_operates : (old new : Machine) (stop : Stop) (op : Operation) → Steps old new stop op → operated op (machine_of old) ≡ step_of new stop
stepped_operates old new stop op s =
    let given = answers (control_of old) op (data_of old) in
    ap {A = Control × Stop} {B = Step} (λ r. record { machine = record { control = r.0; contents = data_step (control_of old) op given (data_of old) }; stop = r.1 }) s.control
    ∙ ap {A = Data} {B = Step} (λ d. record { machine = record { control = control_of new; contents = d }; stop = stop }) s.contents

-- a nibble that an operation doesn't write stays
pub stepped_leaves : (old new : Machine) (stop : Stop) (op : Operation) → Steps old new stop op
    → (j : ℕ) → writes op (machine_of old) j ≡ false → slice_index new.memory.nibbles j ≡ slice_index old.memory.nibbles j
stepped_leaves old new stop op s j unwritten =
    ap (λ d. slice_index d.nibbles j) (sym s.contents) ∙ step-nibble op (machine_of old) j unwritten
