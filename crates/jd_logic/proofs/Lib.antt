pub mod LratInputs
pub mod LineRanges
