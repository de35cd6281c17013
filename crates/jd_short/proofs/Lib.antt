pub mod Agreeing
pub mod Turns
pub mod Known
