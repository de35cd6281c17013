-- What the prefixes of the code mean.
use Rattle.std.specs.Prelude.{ℕ, List, [], ◌∷◌}
use Rattle.hp_model.specs.Operations.{Operation, Place as Where}
use Rattle.hp_model.specs.Operations as ops
use Rattle.hp_model.specs.Keys.{Prefix, Pressed as PressedState, Meaning as MeaningState}
use Rattle.hp_model.specs.Keys as keys
use Rattle.hp_ops.specs.Meaning.{operation}
use Rattle.hp_keys.specs.Commands.{command_of, pressed_of}
use Rattle.hp_keys.specs.declared.commands.Shift.{Shift}
use Rattle.hp_keys.specs.declared.commands.Shift.TheVariants as shift
use Rattle.hp_keys.specs.declared.prefixes.Access.{Access}
use Rattle.hp_keys.specs.declared.prefixes.Access.TheVariants as access
use Rattle.hp_keys.specs.declared.prefixes.FlagUse.{FlagUse}
use Rattle.hp_keys.specs.declared.prefixes.FlagUse.TheVariants as uses
use Rattle.hp_keys.specs.declared.prefixes.LineDigits.{LineDigits}
use Rattle.hp_keys.specs.declared.prefixes.LineDigits.TheVariants as digits
use Rattle.hp_keys.specs.declared.prefixes.Pending.{Pending}
use Rattle.hp_keys.specs.declared.prefixes.Pending.TheVariants as pending
use Rattle.hp_keys.specs.declared.prefixes.Reply.{Reply}
use Rattle.hp_keys.specs.declared.meanings.Meaning.{Meaning}
use Rattle.hp_keys.specs.declared.meanings.Meaning.TheVariants as meaning

abbrev pub line_digits : LineDigits → List ℕ
line_digits digits.None = []
line_digits (digits.One a) = a ∷ []
line_digits (digits.Two a b) = a ∷ b ∷ []

abbrev pub prefix_of : Pending → Prefix
prefix_of pending.Nothing = keys.nothing_pending
prefix_of pending.F = keys.after_f
prefix_of pending.G = keys.after_g
prefix_of (pending.Register access.Store) = keys.storing
prefix_of (pending.Register access.Recall) = keys.recalling
prefix_of (pending.HighRegister access.Store) = keys.storing_point
prefix_of (pending.HighRegister access.Recall) = keys.recalling_point
prefix_of pending.Goto = keys.going
prefix_of (pending.Line given) = keys.going_point (line_digits given)
prefix_of pending.Gosub = keys.calling
prefix_of pending.Label = keys.labelling
prefix_of (pending.Flag uses.Set) = keys.setting_flag
prefix_of (pending.Flag uses.Clear) = keys.clearing_flag
prefix_of (pending.Flag uses.Test) = keys.testing_flag
prefix_of pending.Window = keys.windowing

-- the operation on a place, and on a flag
abbrev pub at_place : Access → Where → Operation
at_place access.Store place = ops.store place
at_place access.Recall place = ops.recall place

abbrev pub on_flag : FlagUse → ℕ → Operation
on_flag uses.Set n = ops.set_flag n
on_flag uses.Clear n = ops.clear_flag n
on_flag uses.Test n = ops.test_flag n

-- the shift that is pending
abbrev pub shift_of : Prefix → Shift
shift_of keys.after_f = shift.F
shift_of keys.after_g = shift.G
shift_of _ = shift.Plain

abbrev pub meaning_of : Meaning → MeaningState
meaning_of (meaning.Does op) = keys.asks_for (keys.operate (operation op))
meaning_of (meaning.Asks command) = keys.asks_for (command_of command)
meaning_of (meaning.Begins prefix) = keys.begins (prefix_of prefix)
meaning_of meaning.Nothing = keys.nothing

abbrev pub reply_of : Reply → Prefix × PressedState
reply_of reply = (prefix_of reply.pending, pressed_of reply.pressed)
