pub mod Propagation
pub mod Proving
pub mod WorkedProving
