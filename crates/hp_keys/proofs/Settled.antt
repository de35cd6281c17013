-- After a key that completes a command or is dropped, no prefix is pending.
use Rattle.std.proofs.Common.{◌≡◌, ℕ, Bool, true, false, nat_lt, if◌then◌else◌, List, [], ◌∷◌, refl, ap, ◌∙◌}
use Rattle.hp_model.specs.declared.Key.{Key}
use Rattle.hp_model.specs.declared.Key.TheVariants.{On}
use Rattle.hp_model.specs.Operations.{Operation, Place}
use Rattle.hp_model.specs.Operations as ops
use Rattle.hp_model.specs.Keys.{Prefix, Pressed, Meaning, plainly, shifted_f, shifted_g}
use Rattle.hp_model.specs.Keys as keys
use Rattle.hp_model.specs.Prefixes.{Operand, operand_of, meant, after_register_key, after_number_key, after_call, after_goto, with_line_digit, after_line_digits, taken, press_key, operates, ends}
use Rattle.hp_model.specs.Prefixes as operands
use Rattle.hp_keys.specs.Commands.{pressed_of}
use Rattle.hp_keys.specs.declared.commands.Pressed.{Pressed as CodePressed}
use Rattle.hp_keys.specs.declared.commands.Pressed.TheVariants as pressed

abbrev Settles : Prefix × Pressed → Type 0
Settles r = (r.1 ≡ keys.more → ⊥) → r.0 ≡ keys.nothing_pending

meant_settles : (m : Meaning) → Settles (meant m)
meant_settles (keys.asks_for command) h = refl
meant_settles (keys.begins prefix) h = absurd (h refl)
meant_settles keys.nothing h = refl

register_settles : (op : Place → Operation) (prefix at_point : Prefix) (operand : Operand) → Settles (after_register_key op prefix at_point operand)
register_settles op prefix at_point operands.point h = absurd (h refl)
register_settles op prefix at_point operands.shift h = absurd (h refl)
register_settles op prefix at_point _ h = refl

number_settles : (bound : ℕ) (op : ℕ → Operation) (operand : Operand) → Settles (after_number_key bound op operand)
number_settles bound op (operands.number n) h = by_test (nat_lt n bound) h
  where
    by_test : (t : Bool) → Settles (if t then operates (op n) else ends keys.dropped)
    by_test true h = refl
    by_test false h = refl
number_settles bound op _ h = refl

call_settles : (operand : Operand) → Settles (after_call operand)
call_settles operands.shift h = absurd (h refl)
call_settles _ h = refl

goto_settles : (operand : Operand) → Settles (after_goto operand)
goto_settles operands.point h = absurd (h refl)
goto_settles operands.shift h = absurd (h refl)
goto_settles _ h = refl

digit_settles : (digits : List ℕ) (n : ℕ) → Settles (with_line_digit digits n)
digit_settles [] n h = absurd (h refl)
digit_settles (a ∷ []) n h = absurd (h refl)
digit_settles (a ∷ b ∷ more_digits) n h = refl

line_settles : (digits : List ℕ) (operand : Operand) → Settles (after_line_digits digits operand)
line_settles digits (operands.number n) h = by_test (nat_lt n 10) h
  where
    by_test : (t : Bool) → Settles (if t then with_line_digit digits n else ends keys.dropped)
    by_test true h = digit_settles digits n h
    by_test false h = refl
line_settles digits _ h = refl

taken_settles : (p : Prefix) (key : Key) → Settles (taken p key)
taken_settles keys.nothing_pending key = meant_settles (plainly key)
taken_settles keys.after_f key = meant_settles (shifted_f key)
taken_settles keys.after_g key = meant_settles (shifted_g key)
taken_settles keys.storing key = register_settles ops.store keys.storing keys.storing_point (operand_of key)
taken_settles keys.recalling key = register_settles ops.recall keys.recalling keys.recalling_point (operand_of key)
taken_settles keys.storing_point key = number_settles 16 _ (operand_of key)
taken_settles keys.recalling_point key = number_settles 16 _ (operand_of key)
taken_settles keys.going key = goto_settles (operand_of key)
taken_settles (keys.going_point digits) key = line_settles digits (operand_of key)
taken_settles keys.calling key = call_settles (operand_of key)
taken_settles keys.labelling key = number_settles 16 ops.label (operand_of key)
taken_settles keys.setting_flag key = number_settles 6 ops.set_flag (operand_of key)
taken_settles keys.clearing_flag key = number_settles 6 ops.clear_flag (operand_of key)
taken_settles keys.testing_flag key = number_settles 6 ops.test_flag (operand_of key)
taken_settles keys.windowing key = number_settles 8 ops.window (operand_of key)

pub press_key_settles : (p : Prefix) (key : Key) → Settles (press_key p key)
press_key_settles p On h = refl
press_key_settles p key h = taken_settles p key h

-- every key but ON is judged by the prefix
pub not_on : (p : Prefix) (key : Key) → (key ≡ On → ⊥) → press_key p key ≡ taken p key
not_on p On h = absurd (h refl)
not_on p key h = refl

more_alone : (p : CodePressed) → pressed_of p ≡ keys.more → p ≡ pressed.More
more_alone pressed.More e = refl
more_alone (pressed.Do command) e = cc
more_alone pressed.Dropped e = cc

-- so it is of a reply that is the definition's
pub reply_settles : (p next : Prefix) (key : Key) (given : CodePressed) → (next, pressed_of given) ≡ press_key p key → (given ≡ pressed.More → ⊥) → next ≡ keys.nothing_pending
reply_settles p next key given e h =
    let waits : (press_key p key).1 ≡ keys.more → ⊥ = λ q. h (more_alone given (ap (λ (r : Prefix × Pressed). r.1) e ∙ q)) in
    ap (λ (r : Prefix × Pressed). r.0) e ∙ press_key_settles p key waits
