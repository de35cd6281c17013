use Rattle.std.proofs.Common.{refl, sym}
use Rattle.hp_model.specs.Questions.{magnitude_above_64, magnitude_bit_is_set}
use Rattle.jd_questions.proofs.next.asked_of_setting.Goals as goal

pub returns-in-First : goal.returns-in-First
returns-in-First c = λ k. rw c.in-Size.is (sym (c.in-First.ensures magnitude_above_64 magnitude_bit_is_set refl (λ place. refl)))

pub returns-in-Bit : goal.returns-in-Bit
returns-in-Bit c = λ k. rw c.in-Size.is (sym (c.in-Bit.ensures magnitude_above_64 magnitude_bit_is_set refl (λ place. refl)))

pub returns-in-Done : goal.returns-in-Done
returns-in-Done c = λ k. rw c.in-Size.is (sym (c.in-Done.ensures magnitude_above_64 magnitude_bit_is_set refl (λ place. refl)))
