use Rattle.std.proofs.Common.{◌≡◌, ◌+◌, ◌<◌, ◌≤◌, false, length, get_or, refl, sym, subst, arith}
use Rattle.jd_cones.specs.Marks.{gate_at}
use Rattle.jd_cones.specs.Renaming.{IsRenaming}
use Rattle.jd_cones.proofs.Marks.{gate-wider, literals-at}
use Rattle.jd_cones.proofs.Numbers.{inputs-renamed, gate-renumbered}
use Rattle.jd_cones.proofs.renumbering.renumbered.Goals as goal

pub loop-place-init : goal.loop-place-init
loop-place-init c =
    let numbers = c.in_ok-input_numbers.field-0.items in
    subst (λ kept. IsRenaming c.args.inputs c.args.gates.now c.args.marks.now 0 numbers kept) (sym c.new.ensures.items)
    (inputs-renamed c.args.inputs c.args.gates.now c.args.marks.now numbers c.in_ok-input_numbers.ensures)

pub pass-requires-clause-gate : goal.pass-requires-clause-gate
pass-requires-clause-gate c =
    let gates = c.args.gates.now in
    let place = c.loop-place.place in
    let inside : place < length gates = omega (arith, c.loop-place-test.true) in
    let count = length c.loop-place.renumbering.numbers.items in
    let room : c.args.inputs + place ≤ count = omega (arith, c.loop-place.invariant.all) in
    gate-wider (c.args.inputs + place) count (gate_at gates place) room (literals-at c.args.inputs gates place inside c.requires.wired)

pub loop-place-preserved : goal.loop-place-preserved
loop-place-preserved c =
    let gates = c.args.gates.now in
    let marks = c.args.marks.now in
    let place = c.loop-place.place in
    let old = c.loop-place.renumbering in
    let new = c.pass.new.self in
    let inside : place < length gates = omega (arith, c.loop-place-test.true) in
    gate-renumbered c.args.inputs gates marks place old.numbers.items new.numbers.items old.gates.items new.gates.items (gate_at gates place) (get_or marks (c.args.inputs + place) false)
    c.requires.wired c.requires.closed inside c.loop-place.invariant refl refl c.in_ok-pass.ensures.numbers c.in_ok-pass.ensures.gates

pub returns : goal.returns
returns c =
    let gates = c.args.gates.now in
    let kept = c.loop-place.renumbering in
    let all : c.loop-place.place ≡ length gates = omega (arith, c.loop-place-test.false, c.loop-place.auto.place-end) in
    subst (λ n. IsRenaming c.args.inputs gates c.args.marks.now n kept.numbers.items kept.gates.items) all c.loop-place.invariant
