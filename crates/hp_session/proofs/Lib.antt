pub mod Parts
pub mod Steps
pub mod SoFar
pub mod Ended
