pub mod Counts
pub mod Raised
