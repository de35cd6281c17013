-- When what a conflict taught may be added.
use Rattle.std.specs.Prelude.{◌≡◌, ℕ, ◌+◌, ◌-◌, ◌<◌, ◌≤◌, ◌^◌, ℤ, Bool, true, false, List, [], ◌∷◌, ◌++◌, length, take, slice_index}
use Rattle.jd_logic.specs.declared.Line.{Line}
use Rattle.jd_proving.specs.Propagation.{has_value}
use Rattle.jd_propagate.specs.Quiet.{IsWithin}
use Rattle.jd_propagate.specs.Levels.{clauses_of}
use Rattle.jd_propagate.specs.Passing.{literal_at}
use Rattle.jd_prover.specs.declared.solver.Solver.{Solver}
use Rattle.jd_prover.specs.Solving.{AreLogged}
use Rattle.jd_learn.specs.Learning.{IsBegun}

-- all literals but the last are true, and the last has no value
pub record IsGiving (trail kept : List ℤ) : Type 0 where
  pub some : 0 < length kept
  pub earlier : IsWithin (take (length kept - 1) kept) trail
  pub open' : has_value trail (literal_at kept (length kept - 1)) ≡ false

-- a literal became true at a place after the last decision
pub record IsLate (s : Solver) (l : ℤ) (place : ℕ) : Type 0 where
  pub within : place < length s.trail
  pub same : literal_at s.trail place ≡ l
  pub after : 0 < length s.limits.items → slice_index s.limits.items (length s.limits.items - 1) ≤ place

-- a line of a clause that may follow those of a search
pub record IsNextLine (clauses : List (List ℤ)) (s : Solver) (line : Line) (clause : List ℤ) (id : ℕ) : Type 0 where
  pub same : clauses_of (s.lines.items ++ line ∷ []) ≡ clauses_of s.lines.items ++ clause ∷ []
  pub logged : AreLogged clauses (s.lines.items ++ line ∷ [])
  pub next : id ≡ length clauses + length s.lines.items + 1
  pub small : id < 2 ^ 62

-- a line more, and propagation is to begin at its literal; or nothing is known
abbrev pub IsTaughtTo : List (List ℤ) → ℕ → Solver → Bool → Type 0
IsTaughtTo clauses lines s true = IsBegun clauses s (length s.trail - 1) × (length s.lines.items ≡ lines + 1) × (0 < length s.trail)
IsTaughtTo clauses lines s false = Unit {0}
