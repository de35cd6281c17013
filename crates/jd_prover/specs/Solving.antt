-- What a search knows.
use Rattle.std.specs.Prelude.{◌≡◌, ◌⊎◌, ℕ, suc, ◌+◌, ◌<◌, ℤ, Bool, true, false, List, [], ◌++◌, length, take, reverse, slice_index, slice_index_or, Option, Some, None}
use Rattle.jd_logic.specs.declared.Line.{Line}
use Rattle.jd_logic.specs.declared.Line.TheVariants.{Derive}
use Rattle.jd_logic.specs.Literals.{AreLiterals, AreHints, with_negations}
use Rattle.jd_logic.specs.Ranges.{AreLines}
use Rattle.jd_logic.specs.Derivation.{hints_fault}
use Rattle.jd_logic.specs.Checking.{begun, numbered_from}
use Rattle.jd_proving.specs.Propagation.{all_new}
use Rattle.jd_propagate.specs.Quiet.{IsIn, IsTrueIn}
use Rattle.jd_propagate.specs.Hints.{IsFalseBy, LeadsToConflict}
use Rattle.jd_propagate.specs.Levels.{clauses_of, derived, negated}
use Rattle.jd_propagate.specs.Passing.{clause_of, AreWatched}
use Rattle.jd_propagate.specs.Reasons.{AreReasons}
use Rattle.jd_propagate.specs.Trails.{key_of}
use Rattle.jd_prover.specs.declared.solver.Solver.{Solver}

-- the clauses given and derived, by their ids
abbrev pub store_of : List (List ℤ) → List Line → List (ℕ × List ℤ)
store_of clauses lines = numbered_from 1 (clauses ++ clauses_of lines)

-- each watched clause was given at its place
pub record AreOrigins (clauses long : List (List ℤ)) (origins : List ℕ) : Type 0 where
  pub as_many : length origins ≡ length long
  pub within : (c : ℕ) → c < length long → slice_index origins c < length clauses
  pub same : (c : ℕ) → c < length long → clause_of long c ≡ clause_of clauses (slice_index origins c)

-- a clause is watched, or true
abbrev pub IsCovered : List (List ℤ) → List ℤ → List ℤ → Type 0
IsCovered long trues clause = ((c : ℕ) × (c < length long) × (clause_of long c ≡ clause)) ⊎ ((l : ℤ) × IsTrueIn trues clause l)

-- why literals are true
pub record AreKnown (clauses : List (List ℤ)) (s : Solver) : Type 0 where
  pub origins : AreOrigins clauses s.long s.origins.items
  pub reasons : AreReasons s.long (store_of clauses s.lines.items) s.decisions.items s.decisions.items s.trail s.reasons.items

-- lines that are right and new, whose ids follow those of the clauses
pub record AreLogged (clauses : List (List ℤ)) (lines : List Line) : Type 0 where
  pub stored : (derived (begun clauses) lines).clauses ≡ store_of clauses lines
  pub greatest : (derived (begun clauses) lines).greatest ≡ length clauses + length lines
  pub new : all_new (begun clauses) clauses lines ≡ true
  pub ranges : AreLines lines

-- hints show a clause from those given and derived
abbrev pub IsRight : List (List ℤ) → List Line → List ℤ → List ℤ → Type 0
IsRight clauses lines clause hints = hints_fault (store_of clauses lines) (with_negations [] clause) hints ≡ None

-- a right line of the negated decisions
pub record IsConflictLine (clauses : List (List ℤ)) (s : Solver) (id : ℕ) (line : Line) : Type 0 where
  pub hints : List ℤ
  pub same : line ≡ Derive id (negated s.decisions.items) hints
  pub right : IsRight clauses s.lines.items (negated s.decisions.items) hints
  pub literals_in : AreLiterals (negated s.decisions.items)
  pub hints_in : AreHints hints

-- so many clauses were taken, and nothing was decided or derived
pub record IsTaken (clauses : List (List ℤ)) (n : ℕ) (s : Solver) : Type 0 where
  pub watched : AreWatched s.long s.firsts.items s.seconds.items s.lists.items
  pub known : AreKnown clauses s
  pub covered : (k : ℕ) → k < n → IsCovered s.long s.trail (clause_of clauses k)
  pub no_decisions : s.decisions.items ≡ []
  pub no_limits : s.limits.items ≡ []
  pub no_lines : s.lines.items ≡ []

-- a clause more was taken, or is false
abbrev pub IsTakenBy : List (List ℤ) → ℕ → Solver → Bool → Type 0
IsTakenBy clauses n s true = IsTaken clauses (suc n) s
IsTakenBy clauses n s false = IsTaken clauses n s × IsFalseBy s.trail (clause_of clauses n)

-- a clause of one literal is true or false, and so many clauses stay taken
abbrev pub IsUnitTaken : List (List ℤ) → ℕ → ℕ → Solver → Bool → Type 0
IsUnitTaken clauses n at s true = IsTaken clauses n s × IsCovered s.long s.trail (clause_of clauses at)
IsUnitTaken clauses n at s false = IsTaken clauses n s × IsFalseBy s.trail (clause_of clauses at)

-- so many clauses were taken, or some clause is false
abbrev pub AreTaken : List (List ℤ) → ℕ → Solver → Option ℕ → Type 0
AreTaken clauses n s None = IsTaken clauses n s
AreTaken clauses n s (Some k) = (k < length clauses) × IsTaken clauses 0 s × IsFalseBy s.trail (clause_of clauses k)

-- a literal that is kept, or a marked one among the first of the trail
abbrev pub IsNeeded : List Bool → List ℤ → List ℤ → ℕ → ℤ → Type 0
IsNeeded marks kept trail at l = ((slice_index_or marks (key_of l) false ≡ true) × IsIn (take at trail) l) ⊎ IsIn kept l

-- hints, last first, that lead to a conflict from the literals needed
pub record IsExplained (store : List (ℕ × List ℤ)) (trail kept : List ℤ) (marks : List Bool) (steps : List ℤ) (at : ℕ) : Type 0 where
  pub leads : LeadsToConflict store trail (IsNeeded marks kept trail at) (reverse steps)
  pub hints : AreHints steps
