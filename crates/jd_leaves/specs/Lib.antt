pub mod Views
pub mod Wired
