-- What symbolic runs end with, and what is seen of them for values of the variables.
use Rattle.std.specs.Prelude.{ℕ, Bool, Option, Some, None}
use Rattle.hp_model.specs.declared.End.{End}
use Rattle.jd_circuit.specs.Net.{Net, variables}
use Rattle.jd_model.specs.Seen.{Seen, late, ended}
use Rattle.jd_content.specs.declared.content.SymContent.{SymContent}
use Rattle.jd_content.specs.Meaning.{data_on}
use Rattle.jd_difference.specs.Ends.{HasShape}
use Rattle.jd_walk.specs.declared.places.SymEnd.{SymEnd}
use Rattle.jd_walk.specs.declared.places.SymEnd.TheVariants.{Late, Ended}

-- a run that ended like this, None where it is late
abbrev pub sym_end_of : Option End → SymContent → SymEnd
sym_end_of None content = Late
sym_end_of (Some end) content = Ended end content

-- what is seen of a run that ends with this
abbrev pub seen_on : (ℕ → Bool) → SymEnd → Seen
seen_on val Late = late
seen_on val (Ended end content) = ended end (data_on val content)

-- its words have 1 to 64 literals, all of the circuit
abbrev pub IsEndOf : Net → SymEnd → Type 0
IsEndOf net Late = Unit {0}
IsEndOf net (Ended end content) = HasShape (variables net) content
