use Rattle.std.proofs.Common.{◌*◌, ◌∙◌, [], ap, sym, refl, arith}
use Rattle.std.proofs.Math.Nat.{one-le-pow}
use Rattle.hp_model.specs.State.{memory_bytes, register_nibbles}
use Rattle.jd_circuit.specs.Net.{Net}
use Rattle.jd_symbolic.proofs.OnBits.{data_kept}
use Rattle.jd_symbolic.proofs.machine.SymMachine.begin.Goals as goal

pub returns-clause-stands : goal.returns-clause-stands
returns-clause-stands g c =
    let p = c.args.problem.now in
    let content = c.in_ok-content.ensures in
    let power = one-le-pow p.size.bits 2 (omega arith) in
    record {
      fits = rw c.beginning.ensures (content.fits _ (omega (arith, c.requires.inputs)));
      nibbles = content.nibbles ∙ ap (λ n. 4 * register_nibbles (memory_bytes p.memory) n) (sym c.blocks-2.ensures.value);
      bounds = rw c.beginning.ensures (record { window = omega arith; line = omega arith; calls = λ k d h. absurd (omega (arith, h)); entry = omega (arith, power) });
    }

-- no gate is looked at: the literals are inputs
pub returns-clause-means : goal.returns-clause-means
returns-clause-means g c = λ bits h.
    let inputs : Net = record { inputs = c.args.c.now.inputs; gates = [] } in
    let content = c.in_ok-content.ensures in
    data_kept inputs c.args.c.now bits (record { inputs = refl; more = omega arith; front = refl }) h c.args.problem.now.size.bits c.in_ok-content.content (content.fits _ (omega (arith, c.requires.inputs)))
    ∙ content.means bits (h ∙ c.requires.inputs)
