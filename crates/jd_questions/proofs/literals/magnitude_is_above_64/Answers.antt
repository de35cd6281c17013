use Rattle.std.proofs.Common.{◌∙◌, nat_le, nat_lt, ap, sym}
use Rattle.jd_circuit.proofs.Values.{solves_before}
use Rattle.jd_vectors.proofs.Numbers.{number-kept}
use Rattle.jd_rows.proofs.SignedValues.{magnitude_is}
use Rattle.jd_rows.proofs.Tops.{small}
use Rattle.jd_questions.proofs.SomeLiterals.{from_65}
use Rattle.jd_questions.proofs.literals.magnitude_is_above_64.Goals as goal

pub returns-clause-meaning : goal.returns-clause-meaning
returns-clause-meaning g c = λ val s.
    let s0 = solves_before _ _ val c.in_ok-l.ensures.grows s in
    let m = magnitude_is _ _ _ (c.in_ok-magnitude.ensures.value val s0) in
    let whole = c.resized-wide.ensures.number val ∙ number-kept _ _ 64 (small val _ _ c.in_ok-magnitude.ensures.length) c.requires.word in
    c.in_ok-l.ensures.meaning val s ∙ ap (nat_le 65) whole ∙ from_65 _ ∙ ap (nat_lt 64) (sym m)

pub is_at_least-requires-clause-of : goal.is_at_least-requires-clause-of
is_at_least-requires-clause-of g c = c.resized-wide.ensures.inside _ c.in_ok-magnitude.ensures.of
