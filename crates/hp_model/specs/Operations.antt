-- The operations.
use Rattle.std.specs.Prelude.{ℕ}
use Rattle.hp_model.specs.declared.Base.{Base}
use Rattle.hp_model.specs.declared.Mode.{Mode}

-- the four rotations: by which way, and whether through the carry
pub data Rotation : Type 0 where
  left right left_carry right_carry : Rotation

-- the eight tests of X against Y or zero
pub data Test : Type 0 where
  at_most_y negative above_y positive not_y nonzero equal_y is_zero : Test

-- where a label is named
pub data Target : Type 0 where
  label_named : ℕ → Target
  label_in_index : Target

-- where a register is named: by its number, RI itself, or the register whose number is in RI
pub data Place : Type 0 where
  register : ℕ → Place
  index_register : Place
  through_index : Place

pub data Operation : Type 0 where
  digit : ℕ → Operation
  add subtract multiply divide : Operation
  enter change_sign roll_down roll_up exchange clear_x last_x : Operation
  set_base : Base → Operation
  shift_left shift_right shift_arithmetic : Operation
  rotate rotate_many : Rotation → Operation
  left_justify mask_left mask_right count_ones set_bit clear_bit test_bit : Operation
  bits_not bits_and bits_or bits_xor : Operation
  absolute remainder square_root : Operation
  double_multiply double_divide double_remainder : Operation
  set_mode : Mode → Operation
  set_size clear_registers : Operation
  test : Test → Operation
  decrement_skip increment_skip : Operation
  set_flag clear_flag test_flag : ℕ → Operation
  label : ℕ → Operation
  goto gosub : Target → Operation
  to_caller pause run_stop : Operation
  store recall : Place → Operation
  exchange_index exchange_through : Operation
  window : ℕ → Operation
  window_left window_right : Operation
