mod Examples
pub mod FormulaReading
pub mod GiveReading
pub mod SpecLaws
