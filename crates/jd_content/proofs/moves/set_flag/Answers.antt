use Rattle.jd_content.proofs.Contents.{inside_set}
use Rattle.jd_content.proofs.moves.set_flag.Goals as goal

pub returns-in-Some-clause-inside : goal.returns-in-Some-clause-inside
returns-in-Some-clause-inside c = λ n h i. inside_set n _ c.args.number c.in-Some.l h (rw c.in-Some.is at i)
