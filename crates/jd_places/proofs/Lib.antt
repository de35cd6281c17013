pub mod Places
pub mod SingleBits
pub mod SmallCounts
pub mod Turning
mod Examples
