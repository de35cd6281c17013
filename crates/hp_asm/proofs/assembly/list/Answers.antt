use Rattle.hp_asm.proofs.Written.{listing-back}
use Rattle.hp_asm.proofs.assembly.list.Goals as goal

pub returns-clause-reads_back : goal.returns-clause-reads_back
returns-clause-reads_back c =
    let codes = c.codes-code-items in
    listing-back c.args.routine.now codes.result.now c.loop-code.text.bytes c.loop-code.code-index codes.ensures.routine codes.ensures.same c.loop-code-test.false c.loop-code.invariant.text
