use Rattle.std.proofs.Common.{◌∷◌, [], ◌∙◌, ap, sym}
use Rattle.hp_model.specs.Questions.{next_question}
use Rattle.jd_questions.specs.Questions.{asked}
use Rattle.jd_questions.proofs.Spelling.{after_first, erring_done, first_asked, going_on}
use Rattle.jd_questions.proofs.next.in_order.Goals as goal

pub returns-in-empty : goal.returns-in-empty
returns-in-empty c = sym (first_asked (asked c.args.first) (asked c.args.second ∷ []) c.args.given.now c.in-empty.len_below)

pub returns-then-erring : goal.returns-then-erring
returns-then-erring c = sym (erring_done (asked c.args.first) (asked c.args.second ∷ []) c.args.given.now _ c.requires c.in-len1-up.len_at_least c.if-erring.true)

pub returns-else-erring : goal.returns-else-erring
returns-else-erring c =
    c.alone.ensures ∙ ap (next_question (asked c.args.second ∷ [])) (after_first c.args.given.now)
    ∙ sym (going_on (asked c.args.first) (asked c.args.second ∷ []) c.args.given.now _ c.requires c.in-len1-up.len_at_least c.if-erring.false)
