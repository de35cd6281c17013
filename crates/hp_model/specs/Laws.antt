-- Laws of the machine in the subject's own words, each proved over the definitions alone.
use Rattle.std.specs.Prelude.{◌≡◌, ℕ, ◌+◌, ◌-◌, ◌*◌, ◌^◌, ◌≤◌, ◌<◌, ℤ, pos, Bool, true, false, List, [], ◌∷◌, ◌++◌, slice_index, length, Some, None}
use Rattle.hp_model.specs.declared.Mode.{Mode}
use Rattle.hp_model.specs.declared.Mode.TheVariants.{Ones}
use Rattle.hp_model.specs.declared.Stop.TheVariants.{Go}
use Rattle.hp_model.specs.declared.Key.{Key}
use Rattle.hp_model.specs.Words.{value, low, fits, magnitude, is_negative_zero}
use Rattle.hp_model.specs.WordOperations.{root, turned}
use Rattle.hp_model.specs.Operations.{Operation, Target, Place}
use Rattle.hp_model.specs.Operations as ops
use Rattle.hp_model.specs.Codes.{code_of, operation_of}
use Rattle.hp_model.specs.State.{Control, Data, Machine, width, index_bits}
use Rattle.hp_model.specs.Memory.{register_value, with_register, is_of_register}
use Rattle.hp_model.specs.Questions.{Question, asks, IsComplete, answers}
use Rattle.hp_model.specs.Run.{IsCompleteLine, line_answers}
use Rattle.hp_model.specs.ControlStep.{control_step}
use Rattle.hp_model.specs.Press.{Calculator}
use Rattle.hp_model.specs.WrittenNibbles.{is_writer, writes, changes_memory, wrote, any_changes_memory, all_write, operated_all, all_wrote, pressed_all}

-- numbers as patterns, and back
pub record PatternsAndNumbers : Type 0 where
  pub low_of_value : (w : ℕ) (mode : Mode) (p : ℕ) → 1 ≤ w → p < 2 ^ w → is_negative_zero w mode p ≡ false → low w mode (value w mode p) ≡ p
  pub value_of_low : (w : ℕ) (mode : Mode) (v : ℤ) → 1 ≤ w → fits w mode v ≡ true → value w mode (low w mode v) ≡ v

-- -0 of one's complement counts as zero, in tests and as a divisor
pub record NegativeZero : Type 0 where
  pub value_is_zero : (w : ℕ) → 1 ≤ w → value w Ones (2 ^ w - 1) ≡ pos 0
  pub magnitude_is_zero : (w : ℕ) → 1 ≤ w → magnitude w Ones (2 ^ w - 1) ≡ 0

-- a register reads what was written to it, and no other nibble changes
pub record RegistersReadBack : Type 0 where
  pub read_written : (w : ℕ) (nibbles : List ℕ) (r v : ℕ) → width w * r + width w ≤ length nibbles → v < 2 ^ w
      → register_value w (with_register w nibbles r v) r ≡ v
  pub others_stay : (w : ℕ) (nibbles : List ℕ) (r v j : ℕ) → is_of_register w r j ≡ false
      → slice_index (with_register w nibbles r v) j ≡ slice_index nibbles j

-- a register none of whose nibbles was written reads as before whenever its word size is back, whatever word sizes came
-- between: over operations, and over keys
pub record Restoration : Type 0 where
  pub over_operations : (w r : ℕ) (done : List Operation) (m : Machine)
      → ((j : ℕ) → is_of_register w r j ≡ true → all_write done m j ≡ false)
      → register_value w (operated_all done m).contents.nibbles r ≡ register_value w m.contents.nibbles r
  pub over_keys : (w r : ℕ) (pressed : List Key) (s : Calculator)
      → ((j : ℕ) → is_of_register w r j ≡ true → all_wrote pressed s j ≡ false)
      → register_value w (pressed_all pressed s).machine.contents.nibbles r ≡ register_value w s.machine.contents.nibbles r

-- what writes nothing: operations that don't store in registers or clear them, and keys that do none of these and don't
-- edit the program. Where only such keys are pressed, each register reads as before once its word size is back
pub record WritesNothingElse : Type 0 where
  pub operations : (op : Operation) (m : Machine) (j : ℕ) → is_writer op ≡ false → writes op m j ≡ false
  pub keys : (s : Calculator) (key : Key) (j : ℕ) → changes_memory s key ≡ false → wrote s key j ≡ false
  pub only_registers : (op : Operation) (m : Machine) (j : ℕ) → op ≡ ops.clear_registers → length m.contents.nibbles ≤ j → writes op m j ≡ false
  pub restored : (w r : ℕ) (pressed : List Key) (s : Calculator) → any_changes_memory pressed s ≡ false
      → register_value w (pressed_all pressed s).machine.contents.nibbles r ≡ register_value w s.machine.contents.nibbles r

-- ---- operations and their codes

abbrev pub IsTarget : Target → Type 0
IsTarget (ops.label_named n) = n < 16
IsTarget ops.label_in_index = Unit {0}

abbrev pub IsPlace : Place → Type 0
IsPlace (ops.register r) = r < 32
IsPlace _ = Unit {0}

-- the number that an operation carries is in its range
abbrev pub IsInRange : Operation → Type 0
IsInRange (ops.digit d) = d < 16
IsInRange (ops.set_flag n) = n < 6
IsInRange (ops.clear_flag n) = n < 6
IsInRange (ops.test_flag n) = n < 6
IsInRange (ops.label n) = n < 16
IsInRange (ops.goto target) = IsTarget target
IsInRange (ops.gosub target) = IsTarget target
IsInRange (ops.store place) = IsPlace place
IsInRange (ops.recall place) = IsPlace place
IsInRange (ops.window k) = k < 8
IsInRange _ = Unit {0}

-- 225 codes, each of one operation
pub record CodesAndOperations : Type 0 where
  pub code_of_operation : (code : ℕ) → code < 225 → code_of (operation_of code) ≡ code
  pub operation_of_code : (op : Operation) → IsInRange op → operation_of (code_of op) ≡ op
  pub code_is_below : (op : Operation) → IsInRange op → code_of op < 225

-- the answers that data gives are complete, and answers given one by one become so when nothing more is asked. A register's
-- number needs one answer and the index bits, a word size at most eight answers, and a label at most five
pub record CompleteAnswers : Type 0 where
  pub of_data : (c : Control) (op : Operation) (d : Data) → IsComplete c op (answers c op d)
  pub of_line : (m : Machine) → IsCompleteLine m.control (line_answers m)
  pub ask_no_more : (c : Control) (op : Operation) (given : List Bool) → IsComplete c op given → asks c op given ≡ None
  pub none_asked : (c : Control) (op : Operation) → asks c op [] ≡ None → IsComplete c op []
  pub last_given : (c : Control) (op : Operation) (given : List Bool) (q : Question) (answer : Bool) → asks c op given ≡ Some q
      → asks c op (given ++ answer ∷ []) ≡ None → IsComplete c op (given ++ answer ∷ [])
  pub few : (c : Control) (op : Operation) (given : List Bool) → IsComplete c op given → length given ≤ index_bits c.bytes + 1
  pub few_for_size : (c : Control) (given : List Bool) → IsComplete c ops.set_size given → length given ≤ 8
  pub few_for_goto : (c : Control) (target : Target) (given : List Bool) → IsComplete c (ops.goto target) given → length given ≤ 5
  pub few_for_gosub : (c : Control) (target : Target) (given : List Bool) → IsComplete c (ops.gosub target) given → length given ≤ 5

-- one rotation to the left and one to the right give the word back, and the carry where it goes through it
pub record RotationsAreInverse : Type 0 where
  pub plain : (w x : ℕ) (c d : Bool) → 1 ≤ w → x < 2 ^ w → (turned ops.right w (turned ops.left w x c).0 d).0 ≡ x
  pub through_carry : (w x : ℕ) (c : Bool) → 1 ≤ w → x < 2 ^ w
      → turned ops.right_carry w (turned ops.left_carry w x c).0 (turned ops.left_carry w x c).1 ≡ (x, c)

-- the root is the greatest number whose square is at most n
pub record IsRoot (n r : ℕ) : Type 0 where
  pub square_fits : r * r ≤ n
  pub next_is_greater : n < (r + 1) * (r + 1)

abbrev pub RootsAreWhole : Type 0
RootsAreWhole = (n : ℕ) → n < 2 ^ 64 → IsRoot n (root n)

-- ---- steps

-- each of the list is at least 1
abbrev pub are_lines : List ℕ → Type 0
are_lines [] = Unit {0}
are_lines (line ∷ calls) = (1 ≤ line) × are_lines calls

-- the line number and the pending returns are lines
pub record Stands (c : Control) : Type 0 where
  pub line : 1 ≤ c.line
  pub calls : are_lines c.calls

-- an operation leaves memory's size, the program and its blocks, and where the run goes on, it stands at a line again
pub record Steps : Type 0 where
  pub bytes_stay : (c : Control) (op : Operation) (given : List Bool) → (control_step c op given).0.bytes ≡ c.bytes
  pub program_stays : (c : Control) (op : Operation) (given : List Bool) → (control_step c op given).0.program ≡ c.program
  pub blocks_stay : (c : Control) (op : Operation) (given : List Bool) → (control_step c op given).0.blocks ≡ c.blocks
  pub goes_on : (c : Control) (op : Operation) (given : List Bool) → Stands c → (control_step c op given).1 ≡ Go → Stands (control_step c op given).0
