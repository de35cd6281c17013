pub mod NextLine
pub mod Spots
pub mod Rooms
pub mod Standing
pub mod SymEnds
pub mod Walked
pub mod Leaves
