pub use Rattle.hp_model.specs.Display
pub mod Shifts
pub mod Windows
