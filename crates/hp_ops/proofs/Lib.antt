pub mod Back
pub mod Inverse
