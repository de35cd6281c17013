pub mod Searches
pub mod Written
pub mod LinesTaken
