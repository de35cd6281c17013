pub mod Marks
pub mod Numbers
pub mod Kept
pub mod Faithful
mod Examples
