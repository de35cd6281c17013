pub mod Forests
pub mod Events
pub mod Unique
pub mod Numbers
pub mod Lines
pub mod ReadBack
