use Rattle.std.proofs.Common.{◌≡◌, ◌∙◌}
use Rattle.hp_ops.specs.Meaning.{operation}
use Rattle.jd_symbolic.specs.Machine.{Asks}
use Rattle.jd_symbolic.proofs.OnBits.{asks_on_bits}
use Rattle.jd_symbolic.proofs.machine.SymMachine.sym_asks.Goals as goal

-- the program that was seen is the machine's
pub returns-clause-on_bits : goal.returns-clause-on_bits
returns-clause-on_bits g c =
    let m = c.args.self.now in
    let codes : c.new-lines.result.codes.now ≡ m.codes = c.new-lines.ensures.codes ∙ c.codes.ensures.same in
    let asked : Asks c.asks.new.c m (operation c.args.op) c.args.given.now c.in_ok-asked.asked = rw (codes, c.new-lines.ensures.blocks, c.new-lines.ensures.extent) at c.in_ok-asked.ensures.asks in
    asks_on_bits c.args.c.now c.asks.new.c m (operation c.args.op) c.args.given.now c.in_ok-asked.asked c.requires.stands c.mark.ensures.wired c.in_ok-asked.ensures.grows asked
