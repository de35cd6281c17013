-- The first answer of rules that answer always or never, worked by computation.
use Rattle.std.proofs.Common.{◌≡◌, inl, inr, true, Some, None, [], ◌∷◌, refl}
use Rattle.std.specs.declared.option.Option.{Option}
use Rattle.jd_circuit.specs.declared.literals.Lit.{Lit}
use Rattle.jd_circuit.specs.declared.literals.Lit.TheVariants.{Const, Var}
use Rattle.jd_circuit.specs.declared.literals.Gate.{Gate}
use Rattle.jd_circuit.specs.declared.literals.Gate.TheVariants.{And}
use Rattle.jd_rules.specs.Answers.{FirstOf}

-- a rule that gives one answer to each gate
abbrev Always : Option Lit → Gate → Option Lit → Type 0
Always given gate answer = answer ≡ given

abbrev gate : Gate
gate = And (Var 1) (Const true)

the_second : FirstOf Always (None ∷ Some (Var 1) ∷ Some (Var 2) ∷ []) gate (Some (Var 1))
the_second = inr (refl, inl (Var 1, refl, refl))

none_of_two : FirstOf Always (None ∷ None ∷ []) gate None
none_of_two = inr (refl, inr (refl, refl))

none_of_none : FirstOf Always [] gate None
none_of_none = refl
