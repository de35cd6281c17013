pub use Rattle.hp_model.specs.Memory
pub mod Bounds
pub mod Bytes
pub mod Written
pub mod Edits
pub mod Passing
