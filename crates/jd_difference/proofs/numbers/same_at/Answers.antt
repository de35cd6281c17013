use Rattle.jd_circuit.specs.Net.{variables}
use Rattle.jd_difference.proofs.numbers.same_at.Goals as goal

pub same-requires-clause-first : goal.same-requires-clause-first
same-requires-clause-first g c = c.number_at-one.ensures.inside (variables c.args.c.now) c.requires.first

pub same-requires-clause-second : goal.same-requires-clause-second
same-requires-clause-second g c = c.number_at-other.ensures.inside (variables c.args.c.now) c.requires.second
