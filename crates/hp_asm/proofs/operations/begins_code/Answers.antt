use Rattle.std.proofs.Common.{sym, ap, ◌∙◌}
use Rattle.jd_text.specs.Words.{words_of}
use Rattle.jd_model.specs.Assembly.{is_first}
use Rattle.hp_asm.proofs.Searches.{first-word}
use Rattle.hp_asm.proofs.operations.begins_code.Goals as goal

pub returns-in-Some : goal.returns-in-Some
returns-in-Some c =
    c.is_text.ensures
    ∙ sym (first-word c.args.word.now c.as_bytes.result.now c.in-Some.first.now c.in-Some.field-0-1 c.in-Some.ensures)
    ∙ ap (λ text. is_first c.args.word.now (words_of text)) (c.as_bytes.ensures.value ∙ c.as_str.ensures.value ∙ c.text_of.ensures)
