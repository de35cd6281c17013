pub mod Spelling
pub mod AskedData
pub mod SomeLiterals
pub mod Examples
