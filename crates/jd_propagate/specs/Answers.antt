-- What a search for a proof answers.
use Rattle.std.specs.Prelude.{ℕ, ℤ, List}
use Rattle.jd_proving.specs.Proving.{IsRefuted, IsModel, IsUnknown}
use Rattle.jd_propagate.specs.declared.proof.Proof.{Proof}
use Rattle.jd_propagate.specs.declared.proof.Proof.TheVariants.{Refuted, Model, Unknown}

abbrev pub IsAnswer : List (List ℤ) → ℕ → ℕ → Proof → Type 0
IsAnswer clauses inputs budget (Refuted log) = IsRefuted clauses budget log
IsAnswer clauses inputs budget (Model bits) = IsModel clauses inputs bits
IsAnswer clauses inputs budget (Unknown log) = IsUnknown clauses inputs budget log
