pub mod Division
pub mod Number
