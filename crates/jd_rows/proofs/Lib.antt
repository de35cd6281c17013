pub mod Asking
pub mod Negatives
pub mod Range
pub mod SameAnswers
pub mod SignedValues
pub mod SumAnswers
pub mod Tops
pub mod Zeros
mod Examples
