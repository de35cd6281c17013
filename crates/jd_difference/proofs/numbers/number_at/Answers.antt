use Rattle.std.proofs.Common.{◌-◌, sym, ◌∙◌, arith}
use Rattle.jd_content.specs.Meaning.{data_on}
use Rattle.jd_difference.proofs.Comparing.{at-flag}
use Rattle.jd_difference.proofs.numbers.number_at.Goals as goal

pub returns-in_default-clause-number : goal.returns-in_default-clause-number
returns-in_default-clause-number c = λ val.
    c.flag_word.ensures.number val ∙ sym (at-flag (data_on val c.args.content.now) c.args.place (c.args.place - 6) (omega arith))
