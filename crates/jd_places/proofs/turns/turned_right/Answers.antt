use Rattle.std.proofs.Common.{◌≡◌, ◌≤◌, ◌-◌, ap, ◌∙◌, refl, sym, slice_get, Some, length}
use Rattle.jd_circuit.specs.Net.{variables}
use Rattle.jd_circuit.proofs.Values.{solves_before}
use Rattle.jd_vectors.specs.Number.{number}
use Rattle.jd_vectors.proofs.Kept.{Inside-at, all_of}
use Rattle.jd_vectors.proofs.Numbers.{number-small}
use Rattle.jd_places.proofs.Places.{bit_at}
use Rattle.jd_places.proofs.Turning.{right_turned}
use Rattle.jd_places.proofs.turns.turned_right.Goals as goal

pub choose-requires-clause-third : goal.choose-requires-clause-third
choose-requires-clause-third g c =
    Inside-at (variables c.is_zero.new.c) c.in_ok-round.round _ c.at-end.result (all_of _ _ _ c.in_ok-none.ensures.grows c.in_ok-round.ensures.of) c.at-end.ensures

pub returns-clause-turned : goal.returns-clause-turned
returns-clause-turned g c = λ val s few.
    let s2 = solves_before _ _ val c.in_ok-after.ensures.grows s in
    let s1 = solves_before _ _ val c.in_ok-none.ensures.grows s2 in
    let s0 = solves_before _ _ val c.in_ok-round.ensures.grows s1 in
    let size = c.len-size.ensures.len in
    let few_of : number val c.args.count.now ≤ c.len-size.result = rw size few in
    let by : number val c.in_ok-by.by ≡ length c.args.y.now - number val c.args.count.now = c.in_ok-by.ensures.number val s0 few_of ∙ ap (λ n. n - number val c.args.count.now) size in
    let top : slice_get c.in_ok-round.round (length c.args.y.now - 1) ≡ Some c.at-end.result = ap (λ n. slice_get c.in_ok-round.round (n - 1)) (sym size) ∙ c.at-end.ensures in
    right_turned _ _ _ _ _ _ _ _ c.requires.some few (number-small val c.args.y.now) by (c.in_ok-round.ensures.number val s1) (bit_at val c.in_ok-round.round _ _ top)
    (c.in_ok-after.ensures.meaning val s ∙ rw (c.in_ok-none.ensures.meaning val s2) refl)
