pub mod Assumptions
pub mod Nibbles
pub mod Parts
pub mod Starts
pub mod Written
