-- Why each literal of a trail is true.
use Rattle.std.specs.Prelude.{◌≡◌, ◌⊎◌, ℕ, ◌<◌, ◌^◌, ℤ, pos, neg_ℤ, List, [], length, take, slice_index_or, Some}
use Rattle.jd_logic.specs.Derivation.{clause_of}
use Rattle.jd_propagate.specs.declared.reason.Reason.{Reason}
use Rattle.jd_propagate.specs.declared.reason.Reason.TheVariants.{Decision, Clause, Line}
use Rattle.jd_propagate.specs.Quiet.{IsIn}
use Rattle.jd_propagate.specs.Hints.{IsCause}

abbrev pub reason_at : List Reason → ℕ → Reason
reason_at reasons i = slice_index_or reasons i Decision

-- the stored clause of an id makes a literal true beside assumed literals that stand before it
pub record IsShown (store : List (ℕ × List ℤ)) (assumed before : List ℤ) (l : ℤ) (id : ℕ) (clause : List ℤ) : Type 0 where
  pub not_zero : 0 < id
  pub small : id < 2 ^ 62
  pub stored : clause_of id store ≡ Some clause
  pub among : IsIn clause l
  pub others : (m : ℤ) → IsIn clause m → (m ≡ l) ⊎ (IsIn before (neg_ℤ m) × IsIn assumed (neg_ℤ m))

-- a literal is true for a reason beside those before it: it was decided, or a watched clause gives it, or a stored one
-- beside assumed literals alone
abbrev pub IsReason : List (List ℤ) → List (ℕ × List ℤ) → List ℤ → List ℤ → List ℤ → ℤ → Reason → Type 0
IsReason clauses store decisions assumed before l Decision = IsIn decisions l
IsReason clauses store decisions assumed before l (Clause c) = (c < length clauses) × IsCause before (slice_index_or clauses c []) l
IsReason clauses store decisions assumed before l (Line id) = (clause : List ℤ) × IsShown store assumed before l id clause

-- each literal of the trail has a reason
pub record AreReasons (clauses : List (List ℤ)) (store : List (ℕ × List ℤ)) (decisions assumed trail : List ℤ) (reasons : List Reason) : Type 0 where
  pub as_many : length reasons ≡ length trail
  pub each : (i : ℕ) → i < length trail → IsReason clauses store decisions assumed (take i trail) (slice_index_or trail i (pos 0)) (reason_at reasons i)

-- literals keep their reasons, and those that were added have one
abbrev pub KeepsReasons : List (List ℤ) → List ℤ → List Reason → List ℤ → List Reason → Type 0
KeepsReasons clauses trail reasons trail_next reasons_next =
    (store : List (ℕ × List ℤ)) (decisions assumed : List ℤ) → AreReasons clauses store decisions assumed trail reasons
    → AreReasons clauses store decisions assumed trail_next reasons_next
