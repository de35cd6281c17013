pub mod Entries
pub mod Erring
pub mod Few
pub mod FromLine
pub mod SoFar
pub mod Sizes
