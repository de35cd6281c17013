use Rattle.jd_circuit.specs.Meaning.{lit_value}
use Rattle.jd_vectors.proofs.Kept.{Inside-at}
use Rattle.jd_content.proofs.Contents.{flag_at}
use Rattle.jd_content.proofs.flags.flag.Goals as goal

pub returns-clause-of : goal.returns-clause-of
returns-clause-of c = λ n h. Inside-at n _ _ _ h c.literal_at.ensures

pub returns-clause-meaning : goal.returns-clause-meaning
returns-clause-meaning c = λ val. flag_at (lit_value val) c.args.content.now.flags c.args.number _ c.literal_at.ensures
