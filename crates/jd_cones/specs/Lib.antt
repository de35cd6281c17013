pub mod Marks
pub mod Cones
pub mod Renaming
pub mod Laws
