pub mod Problems
pub mod StartReadings
pub mod LineWords
pub mod Readings
pub mod ProblemTexts
