-- Where a learning search stands.
use Rattle.std.specs.Prelude.{ℕ, ◌<◌, ◌≤◌, ℤ, List, [], ◌++◌, length, take, slice_index, Option, Some, None}
use Rattle.jd_propagate.specs.Hints.{IsFalseBy}
use Rattle.jd_propagate.specs.Levels.{clauses_of}
use Rattle.jd_propagate.specs.Passing.{clause_of, AreWatched, AreSettled}
use Rattle.jd_propagate.specs.Reasons.{AreReasons}
use Rattle.jd_prover.specs.declared.solver.Solver.{Solver}
use Rattle.jd_prover.specs.Solving.{store_of, AreLogged, AreOrigins}
use Rattle.jd_prover.specs.Searching.{AreCovered}

-- the clauses given and learned
abbrev pub known : List (List ℤ) → Solver → List (List ℤ)
known clauses s = clauses ++ clauses_of s.lines.items

-- so many literals of the trail leave every clause quiet
pub record IsRest (clauses : List (List ℤ)) (s : Solver) (n : ℕ) : Type 0 where
  pub within : n ≤ length s.trail
  pub settled : AreSettled s.long s.firsts.items s.seconds.items (take n s.trail) (take n s.trail)
  pub covered : AreCovered (known clauses s) s.long (take n s.trail)

-- each clause is watched or true, each literal has its reason, and before each decision all were quiet
pub record IsLearning (clauses : List (List ℤ)) (s : Solver) : Type 0 where
  pub watched : AreWatched s.long s.firsts.items s.seconds.items s.lists.items
  pub origins : AreOrigins (known clauses s) s.long s.origins.items
  pub reasons : AreReasons s.long (store_of clauses s.lines.items) s.trail [] s.trail s.reasons.items
  pub covered : AreCovered (known clauses s) s.long s.trail
  pub rests : (j : ℕ) → j < length s.limits.items → IsRest clauses s (slice_index s.limits.items j)
  pub order : (i j : ℕ) → i < j → j < length s.limits.items → slice_index s.limits.items i ≤ slice_index s.limits.items j
  pub lines : AreLogged clauses s.lines.items

-- all clauses are quiet
pub record IsQuietSearch (clauses : List (List ℤ)) (s : Solver) : Type 0 where
  pub learning : IsLearning clauses s
  pub settled : AreSettled s.long s.firsts.items s.seconds.items s.trail s.trail

-- before propagation from a place on
pub record IsBegun (clauses : List (List ℤ)) (s : Solver) (from : ℕ) : Type 0 where
  pub learning : IsLearning clauses s
  pub settled : AreSettled s.long s.firsts.items s.seconds.items s.trail (take from s.trail)
  pub from_in : from ≤ length s.trail

-- after it: a watched clause is false, or all clauses are quiet
abbrev pub IsEnded : List (List ℤ) → Solver → Option ℕ → Type 0
IsEnded clauses s None = IsQuietSearch clauses s
IsEnded clauses s (Some c) = IsLearning clauses s × (c < length s.long) × IsFalseBy s.trail (clause_of s.long c)
