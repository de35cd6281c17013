pub mod Inputs
pub mod SourceChecks
pub mod CertChecks
pub mod Finds
pub mod WorkedInputs
