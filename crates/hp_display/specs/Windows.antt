-- X in windows of eight digits.
use Rattle.std.specs.Prelude.{ℕ, List, Bool}
use Rattle.hp_model.specs.declared.Base.{Base}
use Rattle.hp_model.specs.State.{radix}
use Rattle.hp_model.specs.Display.{filled_to, shown_number, places_text, has_digit}
use Rattle.hp_core.specs.Machines.{control_of, data_of}
use Rattle.hp_core.specs.declared.machine.Machine.{Machine}

-- the eight digits from a place on
abbrev pub window_text : Base → ℕ → Machine → List ℕ
window_text base first m =
    places_text (radix base) (filled_to base (control_of m) (data_of m)) (shown_number base (control_of m) (data_of m)) first 8

-- whether a digit stands at a place
abbrev pub has_place : Base → ℕ → Machine → Bool
has_place base place m =
    has_digit (radix base) (filled_to base (control_of m) (data_of m)) (shown_number base (control_of m) (data_of m)) place
