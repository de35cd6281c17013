use Rattle.std.proofs.Common.{subst}
use Rattle.jd_judge.specs.Judging.{IsJudged}
use Rattle.hp16c_commands.proofs.generating.generate_and_judge.Goals as goal

pub certificate-book-requires : goal.certificate-book-requires
certificate-book-requires g c = subst (λ p. IsJudged p c.in-Ok.judged) c.generate-problem.ensures c.in-Ok.ensures
