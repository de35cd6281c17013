-- Two watched literals of a clause.
use Rattle.std.specs.Prelude.{◌≡◌, ◌≢◌, ℕ, ℤ, neg_ℤ, false, List, take}
use Rattle.std.specs.List.{All}
use Rattle.jd_proving.specs.Propagation.{has_value}
use Rattle.jd_propagate.specs.declared.watch.Finding.{Finding}
use Rattle.jd_propagate.specs.declared.watch.Finding.TheVariants.{Holds, Moves, Gives, IsFalse}
use Rattle.jd_propagate.specs.Quiet.{IsIn, IsOpen}
use Rattle.jd_propagate.specs.Hints.{IsFalseBy, IsCause}

-- two different literals of a clause
pub record IsPair (clause : List ℤ) (a b : ℤ) : Type 0 where
  pub first : IsIn clause a
  pub second : IsIn clause b
  pub apart : a ≢ b

-- where one of them is made false by literals that were seen, the other is true
pub record IsSettled (seen trues : List ℤ) (a b : ℤ) : Type 0 where
  pub first : IsIn seen (neg_ℤ a) → IsIn trues b
  pub second : IsIn seen (neg_ℤ b) → IsIn trues a

-- a clause settled beside the trail, and beside what of it stood before each decision
pub record IsKept (trail : List ℤ) (seen : ℕ) (limits : List ℕ) (a b : ℤ) : Type 0 where
  pub now : IsSettled (take seen trail) trail a b
  pub before : All (λ n. IsSettled (take n trail) (take n trail) a b) limits

-- what a visit finds of a clause one of whose watched literals has become false
abbrev pub IsFound : List ℤ → List ℤ → ℤ → Finding → Type 0
IsFound trues clause other Holds = IsIn trues other
IsFound trues clause other (Moves l) = IsOpen trues clause l × (l ≢ other)
IsFound trues clause other Gives = (has_value trues other ≡ false) × IsCause trues clause other
IsFound trues clause other IsFalse = IsFalseBy trues clause
