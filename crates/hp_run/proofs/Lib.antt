pub mod Registers
pub mod Pressed
