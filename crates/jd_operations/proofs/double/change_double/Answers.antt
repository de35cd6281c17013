use Rattle.jd_operations.proofs.double.change_double.Goals as goal

pub returns-in-Multiply-clause-done : goal.returns-in-Multiply-clause-done
returns-in-Multiply-clause-done g c = λ given. rw c.in-Multiply.is (c.change_multiply.ensures.done given)

pub returns-in-Divide-clause-done : goal.returns-in-Divide-clause-done
returns-in-Divide-clause-done g c = λ given. rw c.in-Divide.is (c.change_divide.ensures.done given)

pub returns-in-Remainder-clause-done : goal.returns-in-Remainder-clause-done
returns-in-Remainder-clause-done g c = λ given. rw c.in-Remainder.is (c.change_remainder.ensures.done given)
