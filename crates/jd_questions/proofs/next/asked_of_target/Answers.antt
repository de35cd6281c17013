use Rattle.std.proofs.Common.{refl, sym}
use Rattle.hp_model.specs.Questions.{index_above_15, index_bit_is_set}
use Rattle.jd_questions.proofs.next.asked_of_target.Goals as goal

pub returns-in-First : goal.returns-in-First
returns-in-First c = rw c.in-Index.is (sym (c.in-First.ensures index_above_15 index_bit_is_set refl (λ place. refl)))

pub returns-in-Bit : goal.returns-in-Bit
returns-in-Bit c = rw c.in-Index.is (sym (c.in-Bit.ensures index_above_15 index_bit_is_set refl (λ place. refl)))

pub returns-in-Done : goal.returns-in-Done
returns-in-Done c = rw c.in-Index.is (sym (c.in-Done.ensures index_above_15 index_bit_is_set refl (λ place. refl)))
