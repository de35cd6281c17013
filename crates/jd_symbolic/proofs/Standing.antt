-- A machine keeps its shape over more gates.
use Rattle.jd_circuit.specs.Net.{Net, Grows}
use Rattle.jd_content.proofs.Contents.{fits_grow}
use Rattle.jd_symbolic.specs.declared.machine.SymMachine.{SymMachine}
use Rattle.jd_symbolic.specs.Machine.{Stands}

pub stands_grown : (old new : Net) (m : SymMachine) → Grows old new → Stands old m → Stands new m
stands_grown old new m grows h = record {
  fits = fits_grow old new m.control.size.bits m.content grows h.fits;
  nibbles = h.nibbles;
  bounds = h.bounds;
}
