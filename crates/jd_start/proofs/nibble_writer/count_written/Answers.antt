use Rattle.std.proofs.Common.{◌-◌, ◌∙◌, arith}
use Rattle.jd_start.proofs.NibbleTexts.{front-zero, front-digit}
use Rattle.jd_start.proofs.nibble_writer.count_written.Goals as goal

pub returns-then-nibbles-count-ne0-clause-text : goal.returns-then-nibbles-count-ne0-clause-text
returns-then-nibbles-count-ne0-clause-text c =
    let l = c.loop-count in
    l.invariant.text ∙ front-digit c.args.nibbles.now l.count (l.count - 1) l.invariant.within (omega arith) c.if-nibbles-count-ne0.true

pub loop-count-preserved : goal.loop-count-preserved
loop-count-preserved c =
    let l = c.loop-count in
    record {
      within = omega arith;
      text = l.invariant.text ∙ front-zero c.args.nibbles.now l.count (l.count - 1) l.invariant.within (omega arith) c.if-nibbles-count-ne0.false;
    }
