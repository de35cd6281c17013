pub mod Allowed
pub mod PartPhrases
pub mod TwoParts
