use Rattle.std.proofs.Common.{◌≡◌, ◌&&◌, not, is_some, sym, ap, ◌∙◌, refl}
use Rattle.hp_model.specs.ControlStep.{is_ignored, longer_entry}
use Rattle.hp_model.specs.DataStep.{entered}
use Rattle.hp_control.specs.Controls.{listing_of}
use Rattle.hp_core.specs.Machines.{control_of, data_of}
use Rattle.hp_core.proofs.Entered.{ignored, entered_as, entered_in}
use Rattle.hp_core.proofs.digits.enter.Goals.{then-is_none, else-is_none}
use Rattle.hp_core.proofs.digits.enter.Goals as goal

pub returns-in-None : goal.returns-in-None
returns-in-None c =
    let now = c.args.machine.now in
    let d = c.args.digit.value in
    let is = ignored (is_ignored (control_of now) d) (longer_entry (control_of now) d)
    (sym c.in-None.is ∙ c.new_entry.ensures.value (listing_of now.memory)) in
    record { control = refl; answers = refl; contents = rw is refl }

pub returns-after-is_none : goal.returns-after-is_none
returns-after-is_none c =
    let now = c.args.machine.now in
    let d = c.args.digit.value in
    let is = entered_as (is_ignored (control_of now) d) c.in-Some.number (longer_entry (control_of now) d)
    (sym c.in-Some.is ∙ c.new_entry.ensures.value (listing_of now.memory)) in
    let lifts : c.if-is_none.lifts ≡ (not (is_some now.control.entry) && now.control.lift) = elim c.if-is_none.branch [
      | then-is_none w ↦ w.lifts-is ∙ rw (c.is_none.ensures, w.if-is_none.true) refl
      | else-is_none w ↦ w.lifts-is ∙ rw (c.is_none.ensures, w.if-is_none.false) refl
    ] in
    record {
      control = refl;
      answers = refl;
      contents = rw (is.0, c.push.ensures)
          (ap (λ n. entered n (control_of now) now.control.entry (data_of now)) (sym is.1)
          ∙ entered_in (control_of now) now.control.entry c.if-is_none.lifts now.content now.memory.nibbles c.in-Some.number lifts);
    }
