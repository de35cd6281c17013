pub mod Growing
pub mod Teaching
pub mod Analysing
pub mod Turning
pub mod Lessons
