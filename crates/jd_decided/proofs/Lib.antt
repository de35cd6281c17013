pub mod Growing
pub mod Decided
pub mod Values
pub mod Refuted
