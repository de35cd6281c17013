use Rattle.std.proofs.Common.{◌≡◌, ◌+◌, ◌-◌, ◌<◌, ◌≤◌, length, arith}
use Rattle.jd_cones.specs.Marks.{gate_at}
use Rattle.jd_cones.proofs.Marks.{gate-passed, gate-wider, literals-at}
use Rattle.jd_cones.proofs.marking.mark_gates.Goals as goal

pub pass-requires-clause-gate : goal.pass-requires-clause-gate
pass-requires-clause-gate c =
    let gates = c.args.gates.now in
    let place = length gates - 1 - c.loop-step.step in
    let inside : place < length gates = omega (arith, c.loop-step-test.true) in
    let room : c.args.inputs + place ≤ length c.loop-step.marks = omega (arith, inside, c.loop-step.invariant.all, c.requires.all) in
    gate-wider (c.args.inputs + place) (length c.loop-step.marks) (gate_at gates place) room (literals-at c.args.inputs gates place inside c.requires.wired)

pub loop-step-preserved : goal.loop-step-preserved
loop-step-preserved c =
    let gates = c.args.gates.now in
    let step = c.loop-step.step in
    let place = length gates - 1 - step in
    let inside : place < length gates = omega (arith, c.loop-step-test.true) in
    let is_from : length gates - step ≡ place + 1 = omega (arith, c.loop-step-test.true) in
    let is_to : length gates - (step + 1) ≡ place = omega (arith, c.loop-step-test.true) in
    gate-passed c.args.inputs gates place (length gates - step) (length gates - (step + 1)) c.args.marks.now c.loop-step.marks c.pass.new.marks
    c.requires.wired c.requires.all inside is_from is_to c.loop-step.invariant c.pass.ensures
