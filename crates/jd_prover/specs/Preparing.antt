-- What is known once the clauses given were taken.
use Rattle.std.specs.Prelude.{◌≡◌, ℕ, ◌^◌, ◌<◌, ℤ, false, List, length}
use Rattle.std.specs.List.{list_any}
use Rattle.jd_logic.specs.Checking.{is_empty}
use Rattle.jd_propagate.specs.Answers.{IsAnswer}
use Rattle.jd_prover.specs.declared.setup.Prepared.{Prepared}
use Rattle.jd_prover.specs.declared.setup.Prepared.TheVariants.{Answered, Ready}
use Rattle.jd_prover.specs.Solving.{IsTaken}

-- an answer whatever the budget, or all clauses were taken and none is empty
abbrev pub IsPrepared : List (List ℤ) → ℕ → Prepared → Type 0
IsPrepared clauses inputs (Answered proof) = (budget : ℕ) → 0 < budget → IsAnswer clauses inputs budget proof
IsPrepared clauses inputs (Ready s) =
    (length clauses < 2 ^ 31) × (inputs < 2 ^ 31) × (list_any is_empty clauses ≡ false) × IsTaken clauses (length clauses) s
