use Rattle.std.proofs.Common.{length}
use Rattle.std.proofs.lemmas.Result.{IfOk-weaker}
use Rattle.hp_ops.specs.Meaning.{operation}
use Rattle.jd_symbolic.specs.Machine.{Asks}
use Rattle.jd_walk.specs.NextLine.{LineAsks, at_line}
use Rattle.jd_walk.proofs.NextLines.{asks-of-line, gates-of-line}
use Rattle.jd_walk.proofs.lines.line_asks.Goals as goal

pub returns-clause-asks : goal.returns-clause-asks
returns-clause-asks g c =
    let m = c.args.machine.now in
    let line = c.following-machine.result in
    let op = operation c.next_op-op.result in
    let net = c.sym_asks-asked.new.c in
    let given = c.args.given.now in
    IfOk-weaker c.sym_asks-asked.result (Asks net (at_line line m) op given) (LineAsks net m given)
    (λ asked a. asks-of-line net m line op given asked c.following-machine.ensures c.next_op-op.ensures a) c.sym_asks-asked.ensures.asks

pub returns-clause-more : goal.returns-clause-more
returns-clause-more g c =
    gates-of-line c.args.machine.now c.following-machine.result (operation c.next_op-op.result) c.args.given.now (length c.args.c.now.gates) (length c.sym_asks-asked.new.c.gates)
    c.following-machine.ensures c.next_op-op.ensures c.sym_asks-asked.ensures.more
