pub mod Told
pub mod CertLinesTaken
pub mod CertSoFar
pub mod Found
pub mod Costing
