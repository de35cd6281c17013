use Rattle.std.proofs.Common.{sym, subst}
use Rattle.hp_ops.specs.Meaning.{operation}
use Rattle.jd_walk.specs.NextLine.{LineSteps}
use Rattle.jd_walk.proofs.NextLines.{steps-of-line}
use Rattle.jd_walk.proofs.lines.line_step.Goals as goal

pub returns-clause-steps : goal.returns-clause-steps
returns-clause-steps g c =
    let m = c.args.machine.now in
    let net = c.sym_step.new.c in
    let given = c.args.given.now in
    let stop = c.in_ok-stop.stop in
    let s = c.in_ok-stop.ensures.steps in
    subst (λ new. LineSteps net m new given stop) (sym c.restore.ensures)
    (steps-of-line net m c.sym_step.new.self c.following-machine.result (operation c.next_op-op.result) given stop c.following-machine.ensures c.next_op-op.ensures
    c.requires.stands.stands.bounds.line (record { control = s.control; contents = s.contents; stands = s.stands }))
