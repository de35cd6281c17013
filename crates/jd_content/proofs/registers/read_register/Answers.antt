use Rattle.std.proofs.Common.{◌≡◌, ◌+◌, ◌-◌, ◌*◌, take, drop, arith, ◌∙◌, refl}
use Rattle.std.proofs.lemmas.List.{length-drop, length-take-le}
use Rattle.hp_model.specs.State.{width}
use Rattle.jd_content.proofs.Windows.{read_is}
use Rattle.jd_vectors.proofs.Kept.{Inside-take, Inside-drop}
use Rattle.jd_content.proofs.registers.read_register.Goals as goal

lits : (c : goal.After-read) → c.read.result ≡ take c.args.size.bits (drop (4 * (width c.args.size.bits * c.args.r)) c.args.nibbles.now)
lits c =
    let first = 4 * (width c.args.size.bits * c.args.r) in
    let z : first + c.args.size.bits - first ≡ c.args.size.bits = omega arith in
    c.read.ensures ∙ rw (c.nibbles.ensures, z) refl

pub returns-clause-meaning : goal.returns-clause-meaning
returns-clause-meaning c = λ val. rw (lits c) (read_is val c.args.nibbles.now c.args.size.bits c.args.r c.requires)

pub returns-clause-length : goal.returns-clause-length
returns-clause-length c = rw (lits c) (length-take-le c.args.size.bits _ (omega (arith, length-drop (4 * (width c.args.size.bits * c.args.r)) c.args.nibbles.now)))

pub returns-clause-inside : goal.returns-clause-inside
returns-clause-inside c = λ n h. rw (lits c) (Inside-take n _ _ (Inside-drop n _ _ h))
