use Rattle.std.proofs.Common.{◌≡◌, ◌+◌, ◌*◌, ◌^◌, ◌<◌, Some, length, take, slice_get, ◌++◌, ◌∷◌, [], arith, ap, ◌∙◌, sym}
use Rattle.jd_circuit.specs.Meaning.{lit_value}
use Rattle.jd_circuit.specs.Net.{variables}
use Rattle.jd_circuit.proofs.Values.{solves_before}
use Rattle.jd_vectors.specs.Number.{number, bit}
use Rattle.jd_vectors.proofs.Kept.{front, all_of, one_of, Inside-push, Inside-take, Inside-at}
use Rattle.jd_vectors.proofs.Numbers.{number-kept, number-small}
use Rattle.jd_turns.proofs.Places.{right_turns, places_back}
use Rattle.jd_turns.proofs.turns.turn_right_with_carry.Goals as goal

pub rotate_left-requires-clause-first : goal.rotate_left-requires-clause-first
rotate_left-requires-clause-first g c = rw (c.push.ensures, c.copy-whole.ensures) (Inside-push (variables c.add_lits.new.c) c.args.y.now c.args.carry (all_of _ _ _ c.in_ok-by.ensures.grows c.requires.first) (one_of _ _ c.args.carry c.in_ok-by.ensures.grows c.requires.second))

pub returns-clause-of : goal.returns-clause-of
returns-clause-of g c =
    rw (c.part.ensures, front c.in_ok-round.round c.len-size.result) (Inside-take (variables c.rotate_left.new.c) c.len-size.result c.in_ok-round.round c.in_ok-round.ensures.of)

pub returns-clause-carry : goal.returns-clause-carry
returns-clause-carry g c = Inside-at (variables c.rotate_left.new.c) c.in_ok-round.round _ c.at.result c.in_ok-round.ensures.of c.at.ensures

pub returns-clause-turned : goal.returns-clause-turned
returns-clause-turned g c = λ val s few.
    let y = c.args.y.now in
    let w = length y in
    let whole = c.push.new.self in
    let round = c.in_ok-round.round in
    let top = c.at.result in
    let is_whole : whole ≡ y ++ c.args.carry ∷ [] = c.push.ensures ∙ ap (λ ls. ls ++ c.args.carry ∷ []) c.copy-whole.ensures in
    let is_top : slice_get round w ≡ Some top = ap (slice_get round) (sym c.len-size.ensures.len) ∙ c.at.ensures in
    let is_front : c.part.result ≡ take w round = c.part.ensures ∙ front round c.len-size.result ∙ ap (λ n. take n round) c.len-size.ensures.len in
    let m = number val c.args.count.now in
    let by = c.in_ok-by.by in
    let out = lit_value val c.in_ok-by._carry in
    let negated = number val c.not_lits.result in
    let s1 = solves_before _ _ val c.in_ok-round.ensures.grows s in
    let wide : number val c.resized-wide.result ≡ m = c.resized-wide.ensures.number val ∙ number-kept m (length c.args.count.now) 8 (number-small val c.args.count.now) c.requires.places in
    let others : negated + m + 1 ≡ 2 ^ 8 = ap (λ n. negated + n + 1) (sym wide) ∙ c.not_lits.ensures.number val ∙ ap (λ n. 2 ^ n) c.resized-wide.ensures.length in
    let added : number val by + 2 ^ 8 * bit out ≡ w + 1 + negated + 1 =
    ap (λ n. number val by + 2 ^ n * bit out) (sym c.constant-all.ensures.length) ∙ c.in_ok-by.ensures.number val s1 ∙ ap (λ n. n + negated + 1) (c.constant-all.ensures.number val) ∙ omega arith in
    let small : number val by < 2 ^ 8 = omega (arith, number-small val by, ap (λ n. 2 ^ n) (c.in_ok-by.ensures.length ∙ c.constant-all.ensures.length)) in
    let places = places_back w m (number val by) negated out c.requires.some c.requires.word few added others small in
    ap (λ ls. (number val ls, lit_value val top)) is_front
    ∙ right_turns val y whole round c.args.carry top c.requires.some is_whole is_top c.in_ok-round.ensures.length m (number val by) few places (c.in_ok-round.ensures.number val s)

pub add_lits-requires-clause-first : goal.add_lits-requires-clause-first
add_lits-requires-clause-first g c = c.constant-all.ensures.inside (variables c.args.c.now)
