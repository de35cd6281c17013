use Rattle.std.proofs.Common.{◌∙◌, ap}
use Rattle.hp_model.specs.WordOperations.{plain}
use Rattle.jd_operations.proofs.logic.joined.Goals as goal

pub returns-clause-fits : goal.returns-clause-fits
returns-clause-fits g c = rw c.plain.ensures (record {
  pattern = record { size = c.in_ok-pattern.ensures.length ∙ c.requires.length; inside = c.in_ok-pattern.ensures.of };
  carry = tt;
  range = tt;
})

pub returns-clause-meaning : goal.returns-clause-meaning
returns-clause-meaning g c = λ val s. rw c.plain.ensures (ap plain (c.in_ok-pattern.ensures.number val s))
