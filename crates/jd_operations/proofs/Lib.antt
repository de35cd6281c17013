pub mod Bounds
pub mod Groups
pub mod Placed
pub mod Sizes
pub mod Possible
pub mod Unchanged
mod Examples
