pub use Rattle.hp_model.specs.KeyWords
pub mod Commands
pub mod Operands
pub mod Prefixes
