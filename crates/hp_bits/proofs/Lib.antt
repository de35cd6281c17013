pub mod Rounds
pub mod Turns
pub mod Lengths
pub mod SingleBits
