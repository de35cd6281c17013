pub mod Ends
pub mod Calculators
pub mod Seen
pub mod Jumped
pub mod Places
pub mod Stepping
