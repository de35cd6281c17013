use Rattle.std.proofs.Common.{sym}
use Rattle.jd_text.specs.Places.{words_at}
use Rattle.jd_spec_texts.proofs.GiveReading.{give-none, give-some}
use Rattle.jd_spec_texts.proofs.lines.one_give.Goals as goal

pub returns-in_err-formula : goal.returns-in_err-formula
returns-in_err-formula c =
    let line = c.args.line.now in
    let none = give-none line c.in_ok-name.name.now (words_at line c.in_ok-name.end) c.in_ok-part.part c.in_ok-name.ensures.words (sym c.in_ok-part.ensures) (sym c.in_err-formula.ensures) in
    cc none

pub returns : goal.returns
returns c =
    let line = c.args.line.now in
    sym (give-some line c.in_ok-name.name.now (words_at line c.in_ok-name.end) c.in_ok-part.part c.in_ok-name.ensures.words (sym c.in_ok-part.ensures) c.in_ok-formula.formula (sym c.in_ok-formula.ensures))
