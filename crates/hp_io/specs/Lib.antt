pub mod Causes
pub mod Limited
pub mod Memory
