use Rattle.std.proofs.Common.{sym, ap, ◌∙◌}
use Rattle.std.proofs.lemmas.Bool.{false≢true}
use Rattle.jd_judge.specs.Laws.{is_equal}
use Rattle.hp16c_commands.proofs.Generated.{always-equal}
use Rattle.hp16c_commands.proofs.generating.certificate.Goals as goal

pub unreachable-requires : goal.unreachable-requires
unreachable-requires c = false≢true (ap is_equal (sym c.in-Different.is) ∙ always-equal c.args.n c.args.judged c.requires)

pub unreachable-requires-in-Unknown : goal.unreachable-requires-in-Unknown
unreachable-requires-in-Unknown c = false≢true (ap is_equal (sym c.in-Unknown.is) ∙ always-equal c.args.n c.args.judged c.requires)

pub unreachable-requires-in-TooManyPaths : goal.unreachable-requires-in-TooManyPaths
unreachable-requires-in-TooManyPaths c = false≢true (ap is_equal (sym c.in-TooManyPaths.is) ∙ always-equal c.args.n c.args.judged c.requires)
