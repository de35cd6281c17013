use Rattle.std.proofs.Common.{◌∙◌, not, ap}
use Rattle.jd_circuit.specs.Meaning.{lit_value}
use Rattle.jd_circuit.proofs.SimpleGates.{value-opposite}
use Rattle.jd_inputs.proofs.Assumed.{not_less}
use Rattle.jd_inputs.proofs.assumptions.relation_lit.Goals as goal

pub returns-in_ok-above-in-Le-clause-meaning : goal.returns-in_ok-above-in-Le-clause-meaning
returns-in_ok-above-in-Le-clause-meaning g c = λ val s.
    rw c.in-Le.is (ap (lit_value val) c.opposite.ensures ∙ value-opposite val c.in_ok-above-in-Le.above ∙ ap not (c.in_ok-above-in-Le.ensures.meaning val s) ∙ not_less _ _)

pub returns-in_ok-equal-in-Ne-clause-meaning : goal.returns-in_ok-equal-in-Ne-clause-meaning
returns-in_ok-equal-in-Ne-clause-meaning g c = λ val s.
    rw c.in-Ne.is (ap (lit_value val) c.opposite-in-Ne.ensures ∙ value-opposite val c.in_ok-equal-in-Ne.equal ∙ ap not (c.in_ok-equal-in-Ne.ensures.meaning val s))
