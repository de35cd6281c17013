use Rattle.std.proofs.Common.{ap, length, refl}
use Rattle.hp_control.specs.Controls.{control_of}
use Rattle.jd_content.proofs.Alone.{alone}
use Rattle.jd_operations.proofs.operation.change_setting.Goals as goal

pub change_size-requires : goal.change_size-requires
change_size-requires c = rw c.in-Size.is at c.requires.possible

pub returns-in-Size : goal.returns-in-Size
returns-in-Size c = λ net h. rw c.in-Size.is (λ listing bounded none.
    alone net (control_of c.args.control.now listing) _ _ _ _ _ (λ val e. c.change_size.ensures.meaning (control_of c.args.control.now listing) val e) (c.change_size.ensures.fits _ _ h) (ap length c.change_size.ensures.same))

pub returns-in-Base : goal.returns-in-Base
returns-in-Base c = λ net h. rw c.in-Base.is (λ listing bounded none. alone net (control_of c.args.control.now listing) _ _ _ _ _ (λ val e. refl) h refl)

pub returns-in-Mode : goal.returns-in-Mode
returns-in-Mode c = λ net h. rw c.in-Mode.is (λ listing bounded none. alone net (control_of c.args.control.now listing) _ _ _ _ _ (λ val e. refl) h refl)
