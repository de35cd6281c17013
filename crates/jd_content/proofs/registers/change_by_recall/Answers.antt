use Rattle.std.proofs.Common.{ℕ, ap, ◌∙◌, arith}
use Rattle.hp_model.specs.Memory.{register_value}
use Rattle.hp_model.specs.DataStep.{pushed}
use Rattle.hp_control.specs.Controls.{control_of}
use Rattle.jd_content.specs.Meaning.{data_on}
use Rattle.jd_content.proofs.Told.{index_told}
use Rattle.jd_content.proofs.Windows.{register_inside}
use Rattle.jd_content.proofs.registers.change_by_recall.Goals as goal

pub recall_at-requires : goal.recall_at-requires
recall_at-requires c = register_inside _ _ _ (rw c.in-Direct.is at c.requires.inside)

pub recall_at-requires-in-Through : goal.recall_at-requires-in-Through
recall_at-requires-in-Through c = register_inside _ _ _ (rw c.number_given.ensures.value (rw c.in-Through.is at c.requires.inside).below)

pub returns-in-Through-clause-meaning : goal.returns-in-Through-clause-meaning
returns-in-Through-clause-meaning c = λ listing val bounded e.
    let k = control_of c.args.control.now listing in
    let d = data_on val c.args.content.now in
    let told = index_told k d c.args.given.now bounded (rw c.in-Through.is at e) (rw c.in-Through.is at c.requires.inside).first in
    rw c.in-Through.is (c.recall_at-in-Through.ensures.meaning listing val
    ∙ ap (λ (r : ℕ). pushed k (register_value k.size d.nibbles r) d) (c.number_given.ensures.value ∙ told))

pub returns-in-Index-clause-fits : goal.returns-in-Index-clause-fits
returns-in-Index-clause-fits c = λ n h. c.push.ensures.fits n _ h (record { size = c.cut-x.ensures.length; inside = c.cut-x.ensures.inside n h.i.inside })

pub overflow_cast-number_given : goal.overflow_cast-number_given
overflow_cast-number_given c = omega (arith, c.number_given.ensures.bound 11 c.requires.few)

pub returns-in-Direct-clause-meaning : goal.returns-in-Direct-clause-meaning
returns-in-Direct-clause-meaning c = λ listing val bounded e. rw c.in-Direct.is (c.recall_at.ensures.meaning listing val)
