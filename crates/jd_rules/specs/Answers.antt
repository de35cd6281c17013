-- What the answers of a rule are, and which answer of a list of rules is the first.
use Rattle.std.specs.Prelude.{◌≡◌, ◌⊎◌, Some, None, List, [], ◌∷◌}
use Rattle.std.specs.declared.option.Option.{Option}
use Rattle.jd_circuit.specs.declared.literals.Lit.{Lit}
use Rattle.jd_circuit.specs.declared.literals.Gate.{Gate}
use Rattle.jd_circuit.specs.Meaning.{HasMeaningOf, IsFromArguments}

-- each answer that may be given has the gate's meaning
abbrev pub HaveMeaning : (Gate → Option Lit → Type 0) → Type 0
HaveMeaning may = (gate : Gate) (answer : Option Lit) → may gate answer → HasMeaningOf gate answer

-- each is a constant or a literal of an argument's variable
abbrev pub AreFromArguments : (Gate → Option Lit → Type 0) → Type 0
AreFromArguments may = (gate : Gate) (answer : Option Lit) → may gate answer → IsFromArguments gate answer

-- Some literal is an answer where it is one of a rule and None is one of all rules before it.
-- None is an answer where it is one of each rule.
abbrev pub FirstOf : {R : Type 0} → (R → Gate → Option Lit → Type 0) → List R → Gate → Option Lit → Type 0
FirstOf may [] gate answer = answer ≡ None
FirstOf may (r ∷ rs) gate answer = ((l : Lit) × (answer ≡ Some l) × may r gate answer) ⊎ (may r gate None × FirstOf may rs gate answer)
