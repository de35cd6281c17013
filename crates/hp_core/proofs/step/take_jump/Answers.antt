use Rattle.std.proofs.Common.{List, Bool, [], sym, refl, subst}
use Rattle.hp_model.specs.Questions.{IsComplete}
use Rattle.hp_model.proofs.CompleteAnswers.{answers-complete}
use Rattle.hp_ops.specs.Meaning.{of_jump}
use Rattle.hp_core.specs.Machines.{control_of, data_of}
use Rattle.hp_core.proofs.Stepped.{stepped}
use Rattle.hp_core.proofs.Jumps.{jump_leaves}
use Rattle.hp_core.proofs.step.take_jump.Goals as goal

pub decide-requires-clause-complete : goal.decide-requires-clause-complete
decide-requires-clause-complete c =
    let before = control_of c.args.machine.now in
    let contents = data_of c.args.machine.now in
    let op = of_jump c.args.op in
    subst (λ (g : List Bool). IsComplete before op g) (c.requires.silent before contents) (answers-complete before op contents)

pub returns : goal.returns
returns c =
    let old = c.args.machine.now in
    let op = of_jump c.args.op in
    stepped old old c.decide.new.machine c.decide.result op []
    (record {
      control = refl;
      answers = sym (c.requires.silent (control_of old) (data_of old));
      contents = jump_leaves (control_of old) c.args.op [] (data_of old);
    })
    c.decide.ensures.control c.decide.ensures.contents
