pub mod Trees
pub mod CertLines
pub mod CertTexts
pub mod Events
pub mod CertWriter
pub mod Laws
pub mod WorkedCertificates
