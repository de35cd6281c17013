use Rattle.std.proofs.Common.{◌≡◌, ap, ◌∙◌, ◌++◌, ◌∷◌, [], arith, take, get_or, lit<}
use Rattle.jd_model.specs.Assembly.{code_text, codes_text}
use Rattle.hp_asm.specs.Separated.{after}
use Rattle.hp_asm.proofs.Written.{code-turn, codes-back}
use Rattle.hp_asm.proofs.code_texts.codes.Goals as goal

pub loop-i-preserved : goal.loop-i-preserved
loop-i-preserved c = record {
  text = c.push_after.ensures.text ∙ ap (λ text. text ++ after c.loop-i.i (code_text (get_or c.codes-codes.result.now c.loop-i.i 0))) c.loop-i.invariant.text ∙ code-turn c.codes-codes.result.now c.loop-i.i c.loop-i-test.true;
  len = omega (arith, c.push_after.ensures.len, c.loop-i.invariant.len);
}

pub returns-clause-reads_back : goal.returns-clause-reads_back
returns-clause-reads_back c =
    let codes = c.codes-codes in
    let text : c.push.new.self.bytes ≡ codes_text (take c.loop-i.i codes.result.now) = c.push.ensures.ascii (lit< tt) ∙ ap (λ text. text ++ 10 ∷ []) c.loop-i.invariant.text in
    codes-back c.args.routine.now codes.result.now c.push.new.self.bytes c.loop-i.i codes.ensures.routine codes.ensures.same c.loop-i-test.false text
