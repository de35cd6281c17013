use Rattle.jd_content.proofs.stack.change_stack.Goals as goal

pub returns-in-ClearX-clause-fits : goal.returns-in-ClearX-clause-fits
returns-in-ClearX-clause-fits c = λ n h. record {
  x = record { size = c.constant-content.ensures.length; inside = c.constant-content.ensures.inside n };
  y = h.y;
  z = h.z;
  t = h.t;
  l = h.l;
  i = h.i;
  flags = h.flags;
  nibbles = h.nibbles;
}

pub returns-in-LastX-clause-fits : goal.returns-in-LastX-clause-fits
returns-in-LastX-clause-fits c = λ n h. c.push.ensures.fits n _ h (rw c.copy-last.ensures h.l)
