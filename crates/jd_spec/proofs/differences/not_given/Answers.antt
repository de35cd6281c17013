use Rattle.std.proofs.Common.{length, not, sym, ap, ◌∙◌, subst}
use Rattle.std.specs.Prelude.{All}
use Rattle.jd_circuit.specs.Meaning.{lit_value}
use Rattle.jd_circuit.proofs.SimpleGates.{value-opposite}
use Rattle.jd_content.specs.Meaning.{data_on}
use Rattle.jd_formulas.specs.Formulas.{IsFormula}
use Rattle.jd_gives.specs.declared.gives.Give.{Give}
use Rattle.jd_gives.specs.Gives.{are_given}
use Rattle.jd_spec.proofs.Meeting.{formulas-in, start-here}
use Rattle.jd_spec.proofs.differences.not_given.Goals as goal

pub given_lit-requires-clause-start : goal.given_lit-requires-clause-start
given_lit-requires-clause-start g c =
    let size = c.args.spec.now.problem.size in
    start-here c.args.c.now size.bits c.args.start.now size.at_least_one size.at_most_64 c.requires.start

pub given_lit-requires-clause-formulas : goal.given_lit-requires-clause-formulas
given_lit-requires-clause-formulas g c =
    let n = c.requires.start.x.size in
    subst (All (λ (x : Give). IsFormula (length c.args.start.now.x) x.formula)) (sym c.as_slice.ensures.gives) (formulas-in c.args.spec.now.problem.size.bits (length c.args.start.now.x) c.args.spec.now.gives n c.args.spec.now.formulas)

pub returns-clause-means : goal.returns-clause-means
returns-clause-means g c = λ val s.
    let start = c.args.start.now in
    let end = c.args.end.now in
    ap (lit_value val) c.opposite.ensures ∙ value-opposite val c.in_ok-given.given ∙ ap not (c.in_ok-given.ensures.means val s)
    ∙ ap (λ gives. not (are_given gives (data_on val start) (data_on val end))) c.as_slice.ensures.gives
