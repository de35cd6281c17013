use Rattle.std.proofs.Common.{◌∙◌, sym}
use Rattle.jd_turns.proofs.Ones.{trues_are}
use Rattle.jd_places.proofs.masks.count_of_ones.Goals as goal

pub returns-clause-number : goal.returns-clause-number
returns-clause-number g c = λ val s. c.in_ok-count.ensures.number val s ∙ sym (trues_are val c.args.x.now)
