pub mod Advanced
pub mod LinesTaken
pub mod ReadUntil
