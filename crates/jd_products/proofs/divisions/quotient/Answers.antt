use Rattle.std.proofs.Common.{ap, ◌∙◌, not}
use Rattle.jd_circuit.specs.Meaning.{lit_value}
use Rattle.jd_circuit.specs.Net.{variables}
use Rattle.jd_circuit.proofs.Values.{solves_before}
use Rattle.jd_circuit.proofs.SimpleGates.{value-opposite}
use Rattle.jd_vectors.proofs.Kept.{all_of, one_of, grows_trans, IsLit-opposite}
use Rattle.jd_products.proofs.SignedRows.{quotient_row}
use Rattle.jd_products.proofs.divisions.quotient.Goals as goal

pub returns-clause-fits : goal.returns-clause-fits
returns-clause-fits g c = record {
  pattern = record { size = c.in_ok-pattern.ensures.length ∙ c.len-size.ensures.len; inside = all_of _ _ _ (grows_trans _ _ _ c.in_ok-range.ensures.grows c.in_ok-whole.ensures.grows) c.in_ok-pattern.ensures.of };
  carry = rw c.opposite.ensures (IsLit-opposite (variables c.is_zero.new.c) c.in_ok-whole.whole c.in_ok-whole.ensures.of);
  range = one_of _ _ c.in_ok-range.range c.in_ok-whole.ensures.grows c.in_ok-range.ensures.of;
}

pub returns-clause-meaning : goal.returns-clause-meaning
returns-clause-meaning g c = λ val s nonzero.
    let s2 = solves_before _ _ val c.in_ok-whole.ensures.grows s in
    let s1 = solves_before _ _ val c.in_ok-range.ensures.grows s2 in
    let s0 = solves_before _ _ val c.in_ok-pattern.ensures.grows s1 in
    let carry = ap (lit_value val) c.opposite.ensures ∙ value-opposite val c.in_ok-whole.whole ∙ ap not (c.in_ok-whole.ensures.meaning val s) in
    quotient_row _ _ _ _ _ _ _ _ _ _ _ _ _ c.len-size.ensures.len c.requires.length (c.in_ok-d.ensures.value val s0 nonzero) (c.in_ok-pattern.ensures.number val s1) carry (c.in_ok-range.ensures.meaning val s2)
