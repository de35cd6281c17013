pub mod Named
pub mod Sizes
pub mod Stepped
pub mod Jumps
pub mod Patterns
pub mod Roots
pub mod Fitted
pub mod Entered
