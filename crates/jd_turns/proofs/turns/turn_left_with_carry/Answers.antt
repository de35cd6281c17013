use Rattle.std.proofs.Common.{◌≡◌, Some, length, take, slice_get, ◌++◌, ◌∷◌, [], refl, ap, ◌∙◌, sym}
use Rattle.jd_circuit.specs.Meaning.{lit_value}
use Rattle.jd_circuit.specs.Net.{variables}
use Rattle.jd_circuit.proofs.Values.{Grows-same}
use Rattle.jd_vectors.specs.Number.{number}
use Rattle.jd_vectors.proofs.Kept.{front, all_of, one_of, Inside-push, Inside-take, Inside-at}
use Rattle.jd_turns.proofs.Places.{left_turns}
use Rattle.jd_turns.proofs.turns.turn_left_with_carry.Goals as goal

pub rotate_left-requires-clause-first : goal.rotate_left-requires-clause-first
rotate_left-requires-clause-first g c = rw (c.push.ensures, c.copy-whole.ensures) (Inside-push (variables c.args.c.now) c.args.y.now c.args.carry (all_of _ _ _ (Grows-same _) c.requires.first) (one_of _ _ c.args.carry (Grows-same _) c.requires.second))

pub returns-clause-of : goal.returns-clause-of
returns-clause-of g c =
    rw (c.part.ensures, front c.in_ok-round.round c.len-size.result) (Inside-take (variables c.rotate_left.new.c) c.len-size.result c.in_ok-round.round c.in_ok-round.ensures.of)

pub returns-clause-carry : goal.returns-clause-carry
returns-clause-carry g c = Inside-at (variables c.rotate_left.new.c) c.in_ok-round.round _ c.at.result c.in_ok-round.ensures.of c.at.ensures

pub returns-clause-turned : goal.returns-clause-turned
returns-clause-turned g c = λ val s few.
    let y = c.args.y.now in
    let w = length y in
    let whole = c.push.new.self in
    let round = c.in_ok-round.round in
    let top = c.at.result in
    let is_whole : whole ≡ y ++ c.args.carry ∷ [] = c.push.ensures ∙ ap (λ ls. ls ++ c.args.carry ∷ []) c.copy-whole.ensures in
    let is_top : slice_get round w ≡ Some top = ap (slice_get round) (sym c.len-size.ensures.len) ∙ c.at.ensures in
    let is_front : c.part.result ≡ take w round = c.part.ensures ∙ front round c.len-size.result ∙ ap (λ n. take n round) c.len-size.ensures.len in
    ap (λ ls. (number val ls, lit_value val top)) is_front
    ∙ left_turns val y whole round c.args.carry top c.requires.some is_whole is_top c.in_ok-round.ensures.length (number val c.args.count.now) (number val c.args.count.now) few refl (c.in_ok-round.ensures.number val s)
