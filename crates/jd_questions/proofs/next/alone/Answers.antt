use Rattle.std.proofs.Common.{[], sym}
use Rattle.jd_questions.specs.Questions.{asked}
use Rattle.jd_questions.proofs.Spelling.{alone_done, first_asked}
use Rattle.jd_questions.proofs.next.alone.Goals as goal

pub returns-in-empty : goal.returns-in-empty
returns-in-empty c = sym (first_asked (asked c.args.question) [] c.args.given.now c.in-empty.len_below)

pub returns-in-len1-up : goal.returns-in-len1-up
returns-in-len1-up c = sym (alone_done (asked c.args.question) c.args.given.now c.in-len1-up.len_at_least)
