use Rattle.std.proofs.Common.{sym}
use Rattle.jd_circuit.proofs.SimpleGates.{simple_is}
use Rattle.jd_circuit.proofs.circuit.known.Goals as goal

pub returns-in-Some : goal.returns-in-Some
returns-in-Some g c = sym (simple_is c.args.gate c.in-Some.l (c.rewrite.ensures.meaning c.in-Some.l c.in-Some.is))
