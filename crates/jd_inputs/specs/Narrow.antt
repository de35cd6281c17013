-- Contents whose words have at most 64 literals.
use Rattle.std.specs.Prelude.{ℕ, ◌≤◌, length}
use Rattle.jd_vectors.specs.Number.{Inside}
use Rattle.jd_content.specs.declared.content.SymContent.{SymContent}

pub record AreNarrow (c : SymContent) : Type 0 where
  pub x : length c.x ≤ 64
  pub y : length c.y ≤ 64
  pub z : length c.z ≤ 64
  pub t : length c.t ≤ 64
  pub l : length c.l ≤ 64
  pub i : length c.i ≤ 64

-- the words are of n variables
pub record AreWordsOf (n : ℕ) (c : SymContent) : Type 0 where
  pub x : Inside n c.x
  pub y : Inside n c.y
  pub z : Inside n c.z
  pub t : Inside n c.t
  pub l : Inside n c.l
  pub i : Inside n c.i
