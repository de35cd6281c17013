-- Where a search stands.
use Rattle.std.specs.Prelude.{◌≡◌, ℕ, ◌+◌, ◌<◌, ◌≤◌, ◌^◌, ℤ, List, length, take, slice_index, Option, Some, None}
use Rattle.std.specs.List.{All}
use Rattle.jd_logic.specs.Literals.{AreLiterals}
use Rattle.jd_logic.specs.Ranges.{AreLines}
use Rattle.jd_propagate.specs.Quiet.{AreQuiet}
use Rattle.jd_propagate.specs.Hints.{IsFalseBy}
use Rattle.jd_propagate.specs.Levels.{clauses_of, IsLevel, IsTrueLine}
use Rattle.jd_propagate.specs.Passing.{literal_at, clause_of, AreWatched, AreSettled}
use Rattle.jd_proving.specs.Proving.{IsRefuted, IsModel, IsUnknown}
use Rattle.jd_prover.specs.declared.search.Turned.{Turned}
use Rattle.jd_prover.specs.declared.search.Turned.TheVariants.{Goes, Refuted, Model, Spent}
use Rattle.jd_prover.specs.declared.solver.Solver.{Solver}
use Rattle.jd_prover.specs.Room.{room}
use Rattle.jd_prover.specs.Solving.{AreKnown, AreLogged, IsCovered}

-- each clause is watched or true
abbrev pub AreCovered : List (List ℤ) → List (List ℤ) → List ℤ → Type 0
AreCovered clauses long trues = (k : ℕ) → k < length clauses → IsCovered long trues (clause_of clauses k)

-- the trail before a decision
pub record IsBefore (clauses : List (List ℤ)) (s : Solver) (trues earlier : List ℤ) (decision : ℤ) : Type 0 where
  pub level : IsLevel clauses (clauses_of s.lines.items) earlier trues decision
  pub settled : AreSettled s.long s.firsts.items s.seconds.items trues trues
  pub covered : AreCovered clauses s.long trues

-- the decisions stand in the trail at their places
pub record AreLevels (clauses : List (List ℤ)) (s : Solver) : Type 0 where
  pub as_many : length s.limits.items ≡ length s.decisions.items
  pub below : (j : ℕ) → j < length s.decisions.items → slice_index s.limits.items j < length s.trail
  pub order : (i j : ℕ) → i < j → j < length s.decisions.items → slice_index s.limits.items i < slice_index s.limits.items j
  pub place : (j : ℕ) → j < length s.decisions.items → literal_at s.trail (slice_index s.limits.items j) ≡ literal_at s.decisions.items j
  pub before : (j : ℕ) → j < length s.decisions.items
      → IsBefore clauses s (take (slice_index s.limits.items j) s.trail) (take j s.decisions.items) (literal_at s.decisions.items j)

-- a search with room for the lines that it may still add
pub record IsSearching (clauses : List (List ℤ)) (inputs : ℕ) (s : Solver) : Type 0 where
  pub watched : AreWatched s.long s.firsts.items s.seconds.items s.lists.items
  pub known : AreKnown clauses s
  pub covered : AreCovered clauses s.long s.trail
  pub levels : AreLevels clauses s
  pub literals : AreLiterals s.decisions.items
  pub true_lines : All (IsTrueLine s.trail) (clauses_of s.lines.items)
  pub lines : AreLogged clauses s.lines.items
  pub room : length s.lines.items + room inputs s.trail s.limits.items ≤ 2 ^ inputs

-- before propagation from a place on
pub record IsStart (clauses : List (List ℤ)) (inputs : ℕ) (s : Solver) (from : ℕ) : Type 0 where
  pub searching : IsSearching clauses inputs s
  pub settled : AreSettled s.long s.firsts.items s.seconds.items s.trail (take from s.trail)
  pub from_in : from ≤ length s.trail

-- after it: a clause is false, or every clause is quiet
abbrev pub IsNode : List (List ℤ) → ℕ → Solver → Option ℕ → Type 0
IsNode clauses inputs s None =
    IsSearching clauses inputs s × AreSettled s.long s.firsts.items s.seconds.items s.trail s.trail × AreQuiet s.trail clauses
IsNode clauses inputs s (Some k) = IsSearching clauses inputs s × (k < length clauses) × IsFalseBy s.trail (clause_of clauses k)

-- how a search stands after a turn, within a budget of lines
abbrev pub IsTurned : List (List ℤ) → ℕ → ℕ → Solver → Turned → Type 0
IsTurned clauses inputs budget s (Goes conflict) = IsNode clauses inputs s conflict × (length s.lines.items ≤ budget)
IsTurned clauses inputs budget s Refuted = IsRefuted clauses budget s.lines.items × AreLines s.lines.items
IsTurned clauses inputs budget s (Model bits) = IsModel clauses inputs bits.items
IsTurned clauses inputs budget s Spent = IsUnknown clauses inputs budget s.lines.items × AreLines s.lines.items
