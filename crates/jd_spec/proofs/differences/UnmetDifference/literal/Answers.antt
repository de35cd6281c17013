use Rattle.std.proofs.Common.{not, sym, ap, ◌∙◌}
use Rattle.jd_content.specs.Meaning.{data_on}
use Rattle.jd_spec.proofs.Meeting.{met-at-halt, met-at-return}
use Rattle.jd_spec.proofs.differences.UnmetDifference.literal.Goals as goal

pub returns-in_ok-l-in-Return-clause-means : goal.returns-in_ok-l-in-Return-clause-means
returns-in_ok-l-in-Return-clause-means g c = λ val s.
    c.in_ok-l-in-Return.ensures.means val s
    ∙ ap not (sym (met-at-return val c.args.self.now.spec.now.gives (data_on val c.args.start.now) c.args.first.now c.in-Ended.end c.in-Ended.content c.in-Ended.is c.in-Return.is))

pub returns-in_ok-l-in-Halt-clause-means : goal.returns-in_ok-l-in-Halt-clause-means
returns-in_ok-l-in-Halt-clause-means g c = λ val s.
    c.in_ok-l-in-Halt.ensures.means val s
    ∙ ap not (sym (met-at-halt val c.args.self.now.spec.now.gives (data_on val c.args.start.now) c.args.first.now c.in-Ended.end c.in-Ended.content c.in-Ended.is c.in-Halt.is))
