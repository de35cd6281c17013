pub mod Lines
pub mod Draws
pub mod Runs
pub mod Agreement
pub mod Asked
