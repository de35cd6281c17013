use Rattle.std.proofs.Common.{sym, ◌∙◌}
use Rattle.jd_text.specs.Words.{words_of}
use Rattle.jd_model.specs.Assembly.{is_code_text, code_of_words}
use Rattle.hp_asm.proofs.Searches.{found-here, found-later, found-none}
use Rattle.hp_asm.proofs.operations.code_of.Goals as goal

pub returns-then-is_code_text-clause-found : goal.returns-then-is_code_text-clause-found
returns-then-is_code_text-clause-found c =
    found-here (is_code_text (words_of c.args.line.now)) c.loop-code.code 225 c.loop-code-test.true (code_of_words (words_of c.args.line.now)) (sym c.is_code_text.ensures ∙ c.if-is_code_text.true)
    c.loop-code.invariant

pub loop-code-preserved : goal.loop-code-preserved
loop-code-preserved c =
    found-later (is_code_text (words_of c.args.line.now)) c.loop-code.code 225 c.loop-code-test.true (code_of_words (words_of c.args.line.now)) (sym c.is_code_text.ensures ∙ c.if-is_code_text.false)
    c.loop-code.invariant

pub returns-clause-found : goal.returns-clause-found
returns-clause-found c =
    found-none (is_code_text (words_of c.args.line.now)) c.loop-code.code 225 c.loop-code-test.false (code_of_words (words_of c.args.line.now)) c.loop-code.invariant
