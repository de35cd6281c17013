use Rattle.std.proofs.Common.{◌≡◌, ◌<◌, ◌^◌, ◌≤◌, ap, ◌∙◌, not, arith, length}
use Rattle.std.proofs.Math.Nat.{pow-le-pow_right}
use Rattle.jd_circuit.specs.Meaning.{lit_value}
use Rattle.jd_circuit.proofs.Values.{solves_before}
use Rattle.jd_circuit.proofs.SimpleGates.{value-opposite}
use Rattle.jd_vectors.specs.Number.{number}
use Rattle.jd_vectors.proofs.Numbers.{number-small}
use Rattle.jd_products.proofs.SignedRows.{root_row}
use Rattle.jd_vectors.proofs.Kept.{all_of, IsLit-opposite}
use Rattle.jd_circuit.specs.Net.{variables}
use Rattle.jd_products.proofs.roots.square_root.Goals as goal

pub returns-clause-meaning : goal.returns-clause-meaning
returns-clause-meaning g c = λ val s.
    let s1 = solves_before _ _ val c.in_ok-whole.ensures.grows s in
    let s0 = solves_before _ _ val c.in_ok-pattern.ensures.grows s1 in
    let carry = ap (lit_value val) c.opposite.ensures ∙ value-opposite val c.in_ok-whole.whole ∙ ap not (c.in_ok-whole.ensures.meaning val s) in
    let m = c.in_ok-_sign.magnitude in
    let wide : 2 ^ length c.args.x.now ≤ 2 ^ 64 = pow-le-pow_right {n = 2} (omega arith) c.requires.word in
    let same : 2 ^ length m ≡ 2 ^ length c.args.x.now = ap (λ n. 2 ^ n) c.in_ok-_sign.ensures.length in
    let small : number val m < 2 ^ 64 = omega (arith, number-small val m, same, wide) in
    root_row (length c.args.x.now) c.args.mode (number val c.args.x.now) _ _ _ _ _ small (c.in_ok-_sign.ensures.value val s0) (c.in_ok-pattern.ensures.number val s1) carry

pub returns-clause-fits : goal.returns-clause-fits
returns-clause-fits g c = record {
  pattern = record { size = c.in_ok-pattern.ensures.root_length ∙ c.in_ok-_sign.ensures.length; inside = all_of _ _ _ c.in_ok-whole.ensures.grows c.in_ok-pattern.ensures.root };
  carry = rw c.opposite.ensures (IsLit-opposite (variables c.is_zero.new.c) c.in_ok-whole.whole c.in_ok-whole.ensures.of);
  range = (omega arith, omega arith);
}
