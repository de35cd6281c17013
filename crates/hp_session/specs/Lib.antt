pub use Rattle.hp_model.specs.Session
pub mod Progress
pub mod Steps
pub mod Ends
