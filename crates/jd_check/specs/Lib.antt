pub mod Events
pub mod Progress
pub mod Runs
pub mod Laws
