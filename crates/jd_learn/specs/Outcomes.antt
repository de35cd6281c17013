-- What a turn of a learning search gives.
use Rattle.std.specs.Prelude.{ℕ, ◌+◌, ◌^◌, ◌<◌, ◌≤◌, ℤ, List, length}
use Rattle.jd_logic.specs.Ranges.{AreLines}
use Rattle.jd_proving.specs.Proving.{IsRefuted, IsModel, IsUnknown}
use Rattle.jd_prover.specs.declared.solver.Solver.{Solver}
use Rattle.jd_learn.specs.declared.search.Turned.{Turned}
use Rattle.jd_learn.specs.declared.search.Turned.TheVariants.{Goes, Refuted, Model, Spent, Fails}
use Rattle.jd_learn.specs.Learning.{IsEnded}

abbrev pub IsTurned : List (List ℤ) → ℕ → ℕ → Solver → Turned → Type 0
IsTurned clauses inputs budget s (Goes conflict) = IsEnded clauses s conflict × (length s.lines.items ≤ budget)
IsTurned clauses inputs budget s Refuted = IsRefuted clauses budget s.lines.items × AreLines s.lines.items
IsTurned clauses inputs budget s (Model bits) = IsModel clauses inputs bits.items
IsTurned clauses inputs budget s Spent = (budget < 2 ^ (inputs + 1) → IsUnknown clauses inputs budget s.lines.items) × AreLines s.lines.items
IsTurned clauses inputs budget s Fails = Unit {0}
