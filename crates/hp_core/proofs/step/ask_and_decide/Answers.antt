use Rattle.std.proofs.Common.{ℕ, List, Bool, sym, ap, subst}
use Rattle.hp_model.specs.State.{Control}
use Rattle.hp_model.specs.Questions.{IsComplete}
use Rattle.hp_model.proofs.CompleteAnswers.{answers-complete}
use Rattle.hp_ops.specs.Meaning.{operation}
use Rattle.hp_core.specs.FromLines.{IsFromALine}
use Rattle.hp_core.specs.Machines.{control_of, data_of}
use Rattle.hp_core.proofs.Stepped.{stepped}
use Rattle.hp_core.proofs.step.ask_and_decide.Goals as goal

pub decide-requires-clause-from : goal.decide-requires-clause-from
decide-requires-clause-from c =
    let line = ap (λ (k : Control). k.line) c.change.ensures.changes.control in
    subst (λ (i : ℕ). IsFromALine (operation c.args.op) i) (sym line) c.requires

-- the answers of the data are complete
pub decide-requires-clause-complete : goal.decide-requires-clause-complete
decide-requires-clause-complete c =
    let before = control_of c.args.machine.now in
    let op = operation c.args.op in
    let complete = answers-complete before op (data_of c.args.machine.now) in
    let given = subst (λ (g : List Bool). IsComplete before op g) (sym c.change.ensures.changes.answers) complete in
    rw (c.as_slice.ensures.value, c.change.ensures.changes.control) given

pub returns : goal.returns
returns c =
    let decided = rw c.as_slice.ensures.value at c.decide.ensures.control in
    stepped c.args.machine.now c.change.new.machine c.decide.new.machine c.decide.result (operation c.args.op) c.change.new.given.items
    c.change.ensures.changes decided c.decide.ensures.contents
