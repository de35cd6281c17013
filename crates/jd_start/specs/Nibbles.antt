-- Lists of register nibbles.
use Rattle.std.specs.Prelude.{ℕ, ◌<◌, ◌≤◌, List, All, length}
use Rattle.hp_model.specs.State.{large_bytes, register_nibbles}

pub record AreNibbles (nibbles : List ℕ) : Type 0 where
  pub digits : All (λ nibble. nibble < 16) nibbles
  pub few : length nibbles ≤ register_nibbles large_bytes 0
