use Rattle.std.proofs.Common.{◌*◌, ap, ◌∙◌}
use Rattle.jd_content.proofs.Windows.{write_is}
use Rattle.jd_vectors.proofs.Kept.{Inside-take, Inside-drop, Inside-append}
use Rattle.jd_content.proofs.registers.write_register.Goals as goal

pub returns-clause-meaning : goal.returns-clause-meaning
returns-clause-meaning c = λ val. rw (c.write.ensures, c.nibbles-2.ensures)
    (write_is val _ _ c.args.size.bits c.args.r _ c.requires.inside (c.widened-lits.ensures.length ∙ ap (λ n. 4 * n) c.nibbles.ensures) (c.widened-lits.ensures.same val))

pub returns-clause-inside : goal.returns-clause-inside
returns-clause-inside c = λ n h k. rw c.write.ensures (Inside-append n _ _ (Inside-append n _ _ (Inside-take n _ _ h) (c.widened-lits.ensures.inside n k)) (Inside-drop n _ _ h))
