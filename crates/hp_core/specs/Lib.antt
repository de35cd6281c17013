pub mod Machines
pub mod Begun
pub mod Moves
pub mod FromLines
pub mod Fitting
