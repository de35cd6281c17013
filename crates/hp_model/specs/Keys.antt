-- The keys: what each means by itself, after f and after g.
use Rattle.std.specs.Prelude.{ℕ, List}
use Rattle.hp_model.specs.declared.Base.{Base}
use Rattle.hp_model.specs.declared.Base.TheVariants.{Hex, Dec, Oct, Bin}
use Rattle.hp_model.specs.declared.Mode.TheVariants.{Unsigned, Ones, Twos}
use Rattle.hp_model.specs.declared.Key.{Key}
use Rattle.hp_model.specs.declared.Key.TheVariants.{Digit0, Digit1, Digit2, Digit3, Digit4, Digit5, Digit6, Digit7, Digit8, Digit9, DigitA, DigitB, DigitC, DigitD, DigitE, DigitF, Plus, Minus, Times, Divide, Enter, ChangeSign, Point, ShiftF, ShiftG, Gosub, Goto, ToHex, ToDec, ToOct, ToBin, RunStop, SingleStep, RollDown, Exchange, Backspace, On, Store, Recall}
use Rattle.hp_model.specs.Operations.{Operation}
use Rattle.hp_model.specs.Operations as ops

-- what a key or several keys ask for
pub data Command : Type 0 where
  operate : Operation → Command
  show_in : Base → Command
  show_status show_memory clear_prefix clear_program switch_program : Command
  single_step back_step backspace : Command
  goto_line : ℕ → Command
  not_here turn_on : Command

-- what was pressed of a command that needs more keys. After `GTO .` these digits were given
pub data Prefix : Type 0 where
  nothing_pending after_f after_g : Prefix
  storing recalling storing_point recalling_point : Prefix
  going calling labelling setting_flag clearing_flag testing_flag windowing : Prefix
  going_point : List ℕ → Prefix

-- what a key means by itself or after a shift
pub data Meaning : Type 0 where
  asks_for : Command → Meaning
  begins : Prefix → Meaning
  nothing : Meaning

-- what a key gives
pub data Pressed : Type 0 where
  more dropped : Pressed
  complete : Command → Pressed

abbrev pub does : Operation → Meaning
does op = asks_for (operate op)

abbrev pub plainly : Key → Meaning
plainly Digit0 = does (ops.digit 0)
plainly Digit1 = does (ops.digit 1)
plainly Digit2 = does (ops.digit 2)
plainly Digit3 = does (ops.digit 3)
plainly Digit4 = does (ops.digit 4)
plainly Digit5 = does (ops.digit 5)
plainly Digit6 = does (ops.digit 6)
plainly Digit7 = does (ops.digit 7)
plainly Digit8 = does (ops.digit 8)
plainly Digit9 = does (ops.digit 9)
plainly DigitA = does (ops.digit 10)
plainly DigitB = does (ops.digit 11)
plainly DigitC = does (ops.digit 12)
plainly DigitD = does (ops.digit 13)
plainly DigitE = does (ops.digit 14)
plainly DigitF = does (ops.digit 15)
plainly Plus = does ops.add
plainly Minus = does ops.subtract
plainly Times = does ops.multiply
plainly Divide = does ops.divide
plainly Enter = does ops.enter
plainly ChangeSign = does ops.change_sign
plainly Point = asks_for not_here
plainly ShiftF = begins after_f
plainly ShiftG = begins after_g
plainly Gosub = begins calling
plainly Goto = begins going
plainly ToHex = does (ops.set_base Hex)
plainly ToDec = does (ops.set_base Dec)
plainly ToOct = does (ops.set_base Oct)
plainly ToBin = does (ops.set_base Bin)
plainly RunStop = does ops.run_stop
plainly SingleStep = asks_for single_step
plainly RollDown = does ops.roll_down
plainly Exchange = does ops.exchange
plainly Backspace = asks_for backspace
plainly On = asks_for turn_on
plainly Store = begins storing
plainly Recall = begins recalling

abbrev pub shifted_f : Key → Meaning
shifted_f Digit0 = asks_for show_memory
shifted_f Digit1 = does (ops.set_mode Ones)
shifted_f Digit2 = does (ops.set_mode Twos)
shifted_f Digit3 = does (ops.set_mode Unsigned)
shifted_f Digit4 = does ops.set_bit
shifted_f Digit5 = does ops.clear_bit
shifted_f Digit6 = does ops.test_bit
shifted_f Digit7 = does ops.mask_left
shifted_f Digit8 = does ops.mask_right
shifted_f Digit9 = does ops.remainder
shifted_f DigitA = does ops.shift_left
shifted_f DigitB = does ops.shift_right
shifted_f DigitC = does (ops.rotate ops.left)
shifted_f DigitD = does (ops.rotate ops.right)
shifted_f DigitE = does (ops.rotate_many ops.left)
shifted_f DigitF = does (ops.rotate_many ops.right)
shifted_f Plus = does ops.bits_or
shifted_f Minus = does ops.bits_not
shifted_f Times = does ops.bits_and
shifted_f Divide = does ops.bits_xor
shifted_f Enter = begins windowing
shifted_f ChangeSign = asks_for not_here
shifted_f Point = asks_for show_status
shifted_f ShiftF = begins after_f
shifted_f ShiftG = begins after_g
shifted_f Gosub = does ops.exchange_through
shifted_f Goto = does ops.exchange_index
shifted_f ToHex = asks_for (show_in Hex)
shifted_f ToDec = asks_for (show_in Dec)
shifted_f ToOct = asks_for (show_in Oct)
shifted_f ToBin = asks_for (show_in Bin)
shifted_f RunStop = nothing
shifted_f SingleStep = nothing
shifted_f RollDown = asks_for clear_program
shifted_f Exchange = does ops.clear_registers
shifted_f Backspace = asks_for clear_prefix
shifted_f On = asks_for turn_on
shifted_f Store = does ops.set_size
shifted_f Recall = asks_for not_here

abbrev pub shifted_g : Key → Meaning
shifted_g Digit0 = does (ops.test ops.not_y)
shifted_g Digit1 = does (ops.test ops.at_most_y)
shifted_g Digit2 = does (ops.test ops.negative)
shifted_g Digit3 = does (ops.test ops.above_y)
shifted_g Digit4 = begins setting_flag
shifted_g Digit5 = begins clearing_flag
shifted_g Digit6 = begins testing_flag
shifted_g Digit7 = does ops.count_ones
shifted_g Digit8 = does ops.absolute
shifted_g Digit9 = does ops.double_remainder
shifted_g DigitA = does ops.left_justify
shifted_g DigitB = does ops.shift_arithmetic
shifted_g DigitC = does (ops.rotate ops.left_carry)
shifted_g DigitD = does (ops.rotate ops.right_carry)
shifted_g DigitE = does (ops.rotate_many ops.left_carry)
shifted_g DigitF = does (ops.rotate_many ops.right_carry)
shifted_g Plus = does (ops.test ops.is_zero)
shifted_g Minus = does (ops.test ops.positive)
shifted_g Times = does ops.double_multiply
shifted_g Divide = does ops.double_divide
shifted_g Enter = does ops.last_x
shifted_g ChangeSign = does (ops.test ops.equal_y)
shifted_g Point = does (ops.test ops.nonzero)
shifted_g ShiftF = begins after_f
shifted_g ShiftG = begins after_g
shifted_g Gosub = does ops.to_caller
shifted_g Goto = begins labelling
shifted_g ToHex = does ops.decrement_skip
shifted_g ToDec = does ops.increment_skip
shifted_g ToOct = does ops.square_root
shifted_g ToBin = asks_for not_here
shifted_g RunStop = asks_for switch_program
shifted_g SingleStep = asks_for back_step
shifted_g RollDown = does ops.roll_up
shifted_g Exchange = does ops.pause
shifted_g Backspace = does ops.clear_x
shifted_g On = asks_for turn_on
shifted_g Store = does ops.window_left
shifted_g Recall = does ops.window_right
