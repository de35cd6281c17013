-- Prefixes: commands that take several keys.
use Rattle.std.specs.Prelude.{ℕ, ◌+◌, ◌*◌, nat_lt, if◌then◌else◌, List, [], ◌∷◌}
use Rattle.hp_model.specs.declared.Key.{Key}
use Rattle.hp_model.specs.declared.Key.TheVariants.{Digit0, Digit1, Digit2, Digit3, Digit4, Digit5, Digit6, Digit7, Digit8, Digit9, DigitA, DigitB, DigitC, DigitD, DigitE, DigitF, Point, ShiftF, SingleStep, RunStop, On}
use Rattle.hp_model.specs.Operations.{Place, Operation}
use Rattle.hp_model.specs.Operations as ops
use Rattle.hp_model.specs.Keys.{Prefix, Pressed, Meaning, plainly, shifted_f, shifted_g}
use Rattle.hp_model.specs.Keys as keys

-- a key as the operand of a prefix
pub data Operand : Type 0 where
  number : ℕ → Operand
  point single run shift other : Operand

abbrev pub operand_of : Key → Operand
operand_of Digit0 = number 0
operand_of Digit1 = number 1
operand_of Digit2 = number 2
operand_of Digit3 = number 3
operand_of Digit4 = number 4
operand_of Digit5 = number 5
operand_of Digit6 = number 6
operand_of Digit7 = number 7
operand_of Digit8 = number 8
operand_of Digit9 = number 9
operand_of DigitA = number 10
operand_of DigitB = number 11
operand_of DigitC = number 12
operand_of DigitD = number 13
operand_of DigitE = number 14
operand_of DigitF = number 15
operand_of Point = point
operand_of SingleStep = single
operand_of RunStop = run
operand_of ShiftF = shift
operand_of _ = other

abbrev pub ends : Pressed → Prefix × Pressed
ends result = (keys.nothing_pending, result)

abbrev pub needs : Prefix → Prefix × Pressed
needs prefix = (prefix, keys.more)

abbrev pub operates : Operation → Prefix × Pressed
operates op = ends (keys.complete (keys.operate op))

abbrev pub meant : Meaning → Prefix × Pressed
meant (keys.asks_for command) = ends (keys.complete command)
meant (keys.begins prefix) = needs prefix
meant keys.nothing = ends keys.dropped

-- after STO or RCL: the operation for a place, this prefix, and the one after its point
abbrev pub after_register_key : (Place → Operation) → Prefix → Prefix → Operand → Prefix × Pressed
after_register_key op prefix at_point (number n) = operates (op (ops.register n))
after_register_key op prefix at_point single = operates (op ops.index_register)
after_register_key op prefix at_point run = operates (op ops.through_index)
after_register_key op prefix at_point point = needs at_point
after_register_key op prefix at_point shift = needs prefix
after_register_key op prefix at_point other = ends keys.dropped

-- after a prefix that takes one number below a bound and nothing else
abbrev pub after_number_key : ℕ → (ℕ → Operation) → Operand → Prefix × Pressed
after_number_key bound op (number n) = if nat_lt n bound then operates (op n) else ends keys.dropped
after_number_key bound op _ = ends keys.dropped

-- after GSB, and after GTO
abbrev pub after_call : Operand → Prefix × Pressed
after_call (number n) = operates (ops.gosub (ops.label_named n))
after_call single = operates (ops.gosub ops.label_in_index)
after_call shift = needs keys.calling
after_call _ = ends keys.dropped

abbrev pub after_goto : Operand → Prefix × Pressed
after_goto (number n) = operates (ops.goto (ops.label_named n))
after_goto single = operates (ops.goto ops.label_in_index)
after_goto point = needs (keys.going_point [])
after_goto shift = needs keys.going
after_goto _ = ends keys.dropped

abbrev pub with_line_digit : List ℕ → ℕ → Prefix × Pressed
with_line_digit [] n = needs (keys.going_point (n ∷ []))
with_line_digit (a ∷ []) n = needs (keys.going_point (a ∷ n ∷ []))
with_line_digit (a ∷ b ∷ more_digits) n = ends (keys.complete (keys.goto_line (100 * a + 10 * b + n)))

abbrev pub after_line_digits : List ℕ → Operand → Prefix × Pressed
after_line_digits digits (number n) = if nat_lt n 10 then with_line_digit digits n else ends keys.dropped
after_line_digits digits _ = ends keys.dropped

-- a key other than ON
abbrev pub taken : Prefix → Key → Prefix × Pressed
taken keys.nothing_pending key = meant (plainly key)
taken keys.after_f key = meant (shifted_f key)
taken keys.after_g key = meant (shifted_g key)
taken keys.storing key = after_register_key ops.store keys.storing keys.storing_point (operand_of key)
taken keys.recalling key = after_register_key ops.recall keys.recalling keys.recalling_point (operand_of key)
taken keys.storing_point key = after_number_key 16 (λ n. ops.store (ops.register (16 + n))) (operand_of key)
taken keys.recalling_point key = after_number_key 16 (λ n. ops.recall (ops.register (16 + n))) (operand_of key)
taken keys.going key = after_goto (operand_of key)
taken (keys.going_point digits) key = after_line_digits digits (operand_of key)
taken keys.calling key = after_call (operand_of key)
taken keys.labelling key = after_number_key 16 ops.label (operand_of key)
taken keys.setting_flag key = after_number_key 6 ops.set_flag (operand_of key)
taken keys.clearing_flag key = after_number_key 6 ops.clear_flag (operand_of key)
taken keys.testing_flag key = after_number_key 6 ops.test_flag (operand_of key)
taken keys.windowing key = after_number_key 8 ops.window (operand_of key)

-- the prefix that is pending after a key, and what the key gives
abbrev pub press_key : Prefix → Key → Prefix × Pressed
press_key prefix On = ends (keys.complete keys.turn_on)
press_key prefix key = taken prefix key
