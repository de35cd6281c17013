pub mod Pairs
pub mod Differences
pub mod Shortened
