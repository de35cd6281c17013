use Rattle.std.proofs.Common.{◌≡◌, ◌-◌, ◌∙◌, refl, sym, arith, take}
use Rattle.std.proofs.lemmas.List.{length-take-le}
use Rattle.jd_vectors.proofs.Kept.{Inside-take}
use Rattle.jd_content.proofs.Windows.{number-mod}
use Rattle.jd_content.proofs.sizes.cut.Goals as goal

lits : (c : goal.After-part) → c.part.result ≡ take c.args.size c.args.x.now
lits c = c.part.ensures ∙ (let z : c.args.size - 0 ≡ c.args.size = omega arith in rw z refl)

pub returns-clause-length : goal.returns-clause-length
returns-clause-length c = rw (lits c) (length-take-le c.args.size c.args.x.now c.requires)

pub returns-clause-inside : goal.returns-clause-inside
returns-clause-inside c = λ n h. rw (lits c) (Inside-take n _ _ h)

pub returns-clause-meaning : goal.returns-clause-meaning
returns-clause-meaning c = λ val. rw (lits c) (sym (number-mod val c.args.x.now c.args.size c.requires))
