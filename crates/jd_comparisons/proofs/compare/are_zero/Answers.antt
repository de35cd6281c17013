use Rattle.std.proofs.Common.{◌==◌, ap, ◌∙◌, refl}
use Rattle.std.specs.Prelude.{nat_abs}
use Rattle.hp_model.specs.Words.{value}
use Rattle.jd_circuit.proofs.Values.{solves_before}
use Rattle.jd_vectors.specs.Number.{number}
use Rattle.jd_comparisons.proofs.compare.are_zero.Goals as goal

pub returns-clause-meaning : goal.returns-clause-meaning
returns-clause-meaning g c = λ val s.
    let s1 = solves_before _ _ val c.in_ok-both.ensures.grows s in
    let s0 = solves_before _ _ val c.in_ok-second.ensures.grows s1 in
    let y = number val c.args.y.now in
    let first = c.in_ok-first.ensures.meaning val s0 ∙ ap (λ w. nat_abs (value w c.args.mode y) == 0) c.requires.length in
    c.in_ok-both.ensures.meaning val s ∙ rw (first, c.in_ok-second.ensures.meaning val s1) refl
