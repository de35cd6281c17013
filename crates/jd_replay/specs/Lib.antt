pub mod Seen
pub mod Phrases
