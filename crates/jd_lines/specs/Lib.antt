pub mod SourceLines
pub mod Until
