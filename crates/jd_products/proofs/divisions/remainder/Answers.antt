use Rattle.std.proofs.Common.{◌∙◌}
use Rattle.jd_circuit.proofs.Values.{solves_before}
use Rattle.jd_products.proofs.SignedRows.{remainder_row}
use Rattle.jd_products.proofs.divisions.remainder.Goals as goal

pub returns-clause-fits : goal.returns-clause-fits
returns-clause-fits g c = rw c.plain.ensures (record {
  pattern = record { size = c.in_ok-pattern.ensures.length ∙ c.len-size.ensures.len; inside = c.in_ok-pattern.ensures.of };
  carry = tt;
  range = tt;
})

pub returns-clause-meaning : goal.returns-clause-meaning
returns-clause-meaning g c = λ val s nonzero.
    let s0 = solves_before _ _ val c.in_ok-pattern.ensures.grows s in
    rw c.plain.ensures (remainder_row _ _ _ _ _ _ _ _ _ _ _ c.len-size.ensures.len c.requires.length (c.in_ok-d.ensures.value val s0 nonzero) (c.in_ok-pattern.ensures.number val s))
