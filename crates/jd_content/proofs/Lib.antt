pub mod Contents
pub mod Lists
pub mod Told
pub mod Windows
pub mod Cleared
pub mod Alone
mod Examples
