pub mod FormulaWords
pub mod Readings
pub mod SpecLines
pub mod SpecTexts
pub mod Specs
pub mod WorkedSpecs
