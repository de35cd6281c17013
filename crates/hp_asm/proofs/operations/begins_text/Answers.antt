use Rattle.std.proofs.Common.{sym, ◌∙◌}
use Rattle.jd_model.specs.Assembly.{begins_code, begins_text}
use Rattle.hp_asm.proofs.Searches.{some-here, some-later, some-none}
use Rattle.hp_asm.proofs.operations.begins_text.Goals as goal

pub returns-then-begins_code : goal.returns-then-begins_code
returns-then-begins_code c =
    some-here (begins_code c.args.word.now) c.loop-code.code 225 c.loop-code-test.true (begins_text c.args.word.now) (sym c.begins_code.ensures ∙ c.if-begins_code.true) c.loop-code.invariant

pub loop-code-preserved : goal.loop-code-preserved
loop-code-preserved c =
    some-later (begins_code c.args.word.now) c.loop-code.code 225 c.loop-code-test.true (begins_text c.args.word.now) (sym c.begins_code.ensures ∙ c.if-begins_code.false) c.loop-code.invariant

pub returns : goal.returns
returns c = some-none (begins_code c.args.word.now) c.loop-code.code 225 c.loop-code-test.false (begins_text c.args.word.now) c.loop-code.invariant
