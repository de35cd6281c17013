pub use Rattle.hp_model.specs.Words
pub mod Places
