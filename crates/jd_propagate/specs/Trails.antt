-- True literals in the order made true, and a mark for each.
use Rattle.std.specs.Prelude.{◌≡◌, ℕ, ◌+◌, ◌*◌, ◌<◌, ℤ, pos, negsuc, Bool, false, List, length, slice_index_or, take}
use Rattle.jd_logic.specs.Literals.{IsLiteral, AreLiterals, has}
use Rattle.jd_proving.specs.Propagation.{has_value}
use Rattle.jd_propagate.specs.Quiet.{HasNoOpposites}

-- each literal's own number
abbrev pub key_of : ℤ → ℕ
key_of (pos n) = 2 * n
key_of (negsuc n) = 2 * n + 1

-- each literal is marked just where it is in the trail
pub record AreMarked (marks : List Bool) (trail : List ℤ) : Type 0 where
  pub agree : (l : ℤ) → IsLiteral l → slice_index_or marks (key_of l) false ≡ has trail l

-- each literal of a trail had no value before
pub record IsTrail (trail : List ℤ) : Type 0 where
  pub literals : AreLiterals trail
  pub fresh : (i : ℕ) → i < length trail → has_value (take i trail) (slice_index_or trail i (pos 0)) ≡ false
  pub no_opposites : HasNoOpposites trail
