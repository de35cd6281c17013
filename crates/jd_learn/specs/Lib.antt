pub mod Learning
pub mod Taught
pub mod Teaching
pub mod Outcomes
