use Rattle.std.proofs.Common.{◌∙◌, refl}
use Rattle.jd_circuit.specs.Net.{variables}
use Rattle.jd_circuit.proofs.Values.{solves_before}
use Rattle.jd_vectors.proofs.Kept.{Inside-at, all_of}
use Rattle.jd_vectors.proofs.Numbers.{number-small}
use Rattle.jd_places.proofs.Places.{bit_at}
use Rattle.jd_places.proofs.Turning.{left_turned}
use Rattle.jd_places.proofs.turns.turned_left.Goals as goal

pub choose-requires-clause-third : goal.choose-requires-clause-third
choose-requires-clause-third g c =
    Inside-at (variables c.is_zero.new.c) c.in_ok-round.round _ c.at-end.result (all_of _ _ _ c.in_ok-none.ensures.grows c.in_ok-round.ensures.of) c.at-end.ensures

pub returns-clause-turned : goal.returns-clause-turned
returns-clause-turned g c = λ val s few.
    let s1 = solves_before _ _ val c.in_ok-after.ensures.grows s in
    let s0 = solves_before _ _ val c.in_ok-none.ensures.grows s1 in
    left_turned _ _ _ _ _ _ _ c.requires.some few (number-small val c.args.y.now) (c.in_ok-round.ensures.number val s0) (bit_at val c.in_ok-round.round _ _ c.at-end.ensures)
    (c.in_ok-after.ensures.meaning val s ∙ rw (c.in_ok-none.ensures.meaning val s1) refl)
