-- The literals of a start: inputs in their order for the numbers that are free, and constants for the others.
use Rattle.std.specs.Prelude.{ℕ, zero, suc, List, [], ◌∷◌, map, Bool}
use Rattle.jd_model.specs.Problems.{Field, Problem, field}
use Rattle.jd_circuit.specs.declared.literals.Lit.{Lit}
use Rattle.jd_circuit.specs.declared.literals.Lit.TheVariants.{Var}
use Rattle.jd_circuit.specs.Meaning.{lit_value}
use Rattle.jd_vectors.specs.Number.{bit, number}
use Rattle.jd_rows.specs.Answers.{IsWord}
use Rattle.jd_inputs.specs.declared.content.Words.{Words}

-- w inputs, after k that are taken
abbrev pub inputs_from : ℕ → ℕ → List Lit
inputs_from zero k = []
inputs_from (suc w) k = Var (suc k) ∷ inputs_from w (suc k)

-- ---- the fields of the words and of the flags

abbrev pub word_fields : Problem → List Field
word_fields p = field p p.size 0 ∷ field p p.size 1 ∷ field p p.size 2 ∷ field p p.size 3 ∷ field p p.size 4 ∷ field p 64 5 ∷ []

abbrev pub flag_fields : Problem → List Field
flag_fields p = field p 1 6 ∷ field p 1 7 ∷ field p 1 8 ∷ field p 1 9 ∷ field p 1 10 ∷ field p 1 11 ∷ []

-- ---- the numbers that literals mean

abbrev pub word_numbers : (ℕ → Bool) → Words → List ℕ
word_numbers val w = number val w.x ∷ number val w.y ∷ number val w.z ∷ number val w.t ∷ number val w.l ∷ number val w.i ∷ []

abbrev pub flag_numbers : (ℕ → Bool) → List Lit → List ℕ
flag_numbers val flags = map (λ l. bit (lit_value val l)) flags

-- words of n variables, five of them of so many bits
pub record AreWords (n size : ℕ) (w : Words) : Type 0 where
  pub x : IsWord n size w.x
  pub y : IsWord n size w.y
  pub z : IsWord n size w.z
  pub t : IsWord n size w.t
  pub l : IsWord n size w.l
  pub i : IsWord n 64 w.i
