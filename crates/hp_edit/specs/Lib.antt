pub use Rattle.hp_model.specs.Memory
