use Rattle.std.proofs.Common.{◌≤◌, arith, length}
use Rattle.jd_vectors.specs.Number.{number}
use Rattle.jd_vectors.proofs.Kept.{Inside-at}
use Rattle.jd_vectors.proofs.Numbers.{number-small}
use Rattle.jd_places.proofs.Places.{bit_at}
use Rattle.jd_questions.proofs.SomeLiterals.{bit_past}
use Rattle.jd_questions.proofs.literals.bit_at.Goals as goal

pub returns-then-place-len-clause-of : goal.returns-then-place-len-clause-of
returns-then-place-len-clause-of c = λ n h. Inside-at n c.args.x.now c.args.place _ h c.at.ensures

pub returns-then-place-len-clause-meaning : goal.returns-then-place-len-clause-meaning
returns-then-place-len-clause-meaning c = λ val. bit_at val c.args.x.now c.args.place _ c.at.ensures

pub returns-else-place-len-clause-meaning : goal.returns-else-place-len-clause-meaning
returns-else-place-len-clause-meaning c = λ val.
    let x = c.args.x.now in
    let past : length x ≤ c.args.place = omega (arith, c.if-place-len.false, c.len.ensures.len) in
    bit_past (number val x) (length x) c.args.place (number-small val x) past
