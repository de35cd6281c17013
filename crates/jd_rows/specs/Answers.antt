-- What answers of literals mean for values of the variables.
use Rattle.std.specs.Prelude.{◌≡◌, ℕ, ◌-◌, ◌^◌, ◌==◌, nat_lt, nat_le, Bool, true, false, not, ◌&&◌, List, length, Option, Some, None, ℤ, pos, neg_ℤ}
use Rattle.hp_model.specs.declared.Mode.{Mode}
use Rattle.hp_model.specs.declared.Mode.TheVariants.{Unsigned, Ones, Twos}
use Rattle.hp_model.specs.declared.Answer.{Answer}
use Rattle.jd_circuit.specs.declared.literals.Lit.{Lit}
use Rattle.jd_circuit.specs.declared.literals.Lit.TheVariants.{Const, Var, Not}
use Rattle.jd_circuit.specs.Meaning.{lit_value, xor}
use Rattle.jd_circuit.specs.Net.{IsLit}
use Rattle.jd_vectors.specs.Number.{number, Inside}
use Rattle.jd_rows.specs.declared.answer.SymAnswer.{SymAnswer}

-- what the literal of a flag means, where the answer tells it
abbrev pub told : (ℕ → Bool) → Option Lit → Option Bool
told val None = None
told val (Some l) = Some (lit_value val l)

-- what an answer of literals means
abbrev pub answer_on : (ℕ → Bool) → SymAnswer → Answer
answer_on val a = record { pattern = number val a.pattern; carry = told val a.carry; range = told val a.range }

-- w literals of n variables
pub record IsWord (n w : ℕ) (ls : List Lit) : Type 0 where
  pub size : length ls ≡ w
  pub inside : Inside n ls

-- the same of one literal, where there is one
abbrev pub told_inside : ℕ → Option Lit → Type 0
told_inside n None = Unit {0}
told_inside n (Some l) = IsLit n l

-- an answer of w bits, of n variables
pub record AnswerFits (n w : ℕ) (a : SymAnswer) : Type 0 where
  pub pattern : IsWord n w a.pattern
  pub carry : told_inside n a.carry
  pub range : told_inside n a.range

-- both tops are alike, and the result's is another
abbrev pub overflows : Bool → Bool → Bool → Bool
overflows p q r = not (xor p q) && xor p r

-- a magnitude with a sign
abbrev pub with_sign : Bool → ℕ → ℤ
with_sign true m = neg_ℤ (pos m)
with_sign false m = pos m

-- whether a pattern is a negative number's: in one's complement 0 has none
abbrev pub shows_minus : Mode → Bool → ℕ → Bool
shows_minus Ones s q = s && not (q == 0)
shows_minus _ s q = s

-- whether a literal is the constant false
abbrev pub is_false : Lit → Bool
is_false (Const b) = not b
is_false (Var v) = false
is_false (Not v) = false

-- the greatest magnitude of a negative number of w bits, and the greatest number
abbrev pub below : ℕ → Mode → ℕ
below w Unsigned = 0
below w Ones = 2 ^ (w - 1) - 1
below w Twos = 2 ^ (w - 1)

abbrev pub above : ℕ → Mode → ℕ
above w Unsigned = 2 ^ w - 1
above w _ = 2 ^ (w - 1) - 1

-- out of range of a difference, by the borrow or by the top bits of y, x and the difference r
abbrev pub difference_out : ℕ → Mode → ℕ → ℕ → ℕ → Bool
difference_out w Unsigned y x r = nat_lt y x
difference_out w _ y x r = xor (nat_le (2 ^ (w - 1)) y) (nat_le (2 ^ (w - 1)) x) && xor (nat_le (2 ^ (w - 1)) y) (nat_le (2 ^ (w - 1)) r)
