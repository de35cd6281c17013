use Rattle.std.proofs.Common.{◌≡◌, ◌-◌, ◌^◌, ◌≤◌, ap, ◌∙◌, arith}
use Rattle.jd_circuit.proofs.Values.{solves_before}
use Rattle.jd_vectors.specs.Number.{number}
use Rattle.jd_places.proofs.masks.mask_left.Goals as goal

pub returns-clause-number : goal.returns-clause-number
returns-clause-number g c = λ val s few.
    let s0 = solves_before _ _ val c.in_ok-upper.ensures.grows s in
    let by : number val c.in_ok-by.by ≡ c.args.size - number val c.args.m.now = c.in_ok-by.ensures.number val s0 few in
    let less : number val c.in_ok-by.by ≤ c.args.size = omega arith in
    c.in_ok-upper.ensures.number val s less ∙ ap (λ n. 2 ^ c.args.size - 2 ^ n) by
