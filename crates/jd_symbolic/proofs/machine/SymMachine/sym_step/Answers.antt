use Rattle.std.proofs.Common.{◌≡◌, ℕ, ap, sym, subst, ◌∙◌}
use Rattle.hp_model.specs.declared.Stop.{Stop}
use Rattle.hp_model.specs.State.{Control}
use Rattle.hp_ops.specs.Meaning.{operation}
use Rattle.hp_control.proofs.Erring.{data_goes, step-size}
use Rattle.jd_circuit.specs.Net.{variables}
use Rattle.jd_content.specs.Meaning.{Fits, data_on}
use Rattle.jd_symbolic.specs.Machine.{listing_of, state_of}
use Rattle.jd_symbolic.proofs.OnBits.{step_on_bits}
use Rattle.jd_symbolic.proofs.Stepping.{bounded, few}
use Rattle.jd_symbolic.proofs.machine.SymMachine.sym_step.Goals as goal

pub change-requires-clause-few : goal.change-requires-clause-few
change-requires-clause-few g c = few (state_of c.args.self.now) (operation c.args.op) c.args.given.now c.requires.complete

-- the program that control saw is the machine's
pub returns-in_ok-change-in-None-clause-steps : goal.returns-in_ok-change-in-None-clause-steps
returns-in_ok-change-in-None-clause-steps g c =
    let old = c.args.self.now in
    let op = operation c.args.op in
    let given = c.args.given.now in
    let codes : c.new-lines.result.codes.now ≡ old.codes = c.new-lines.ensures.codes ∙ c.codes.ensures.same in
    let blocks = c.new-lines.ensures.blocks in
    let extent = c.new-lines.ensures.extent in
    let seen = sym c.error_of.ensures ∙ c.in-None.is in
    let none = rw (codes, blocks, extent) at seen in
    let change = c.in_ok-change-in-None.ensures.done (listing_of old) (bounded old.extent) none in
    let step = rw (codes, blocks, extent) at c.step_done.ensures.step in
    record {
      control = step;
      contents = λ val s e. change.contents val s e ∙ data_goes (state_of old) op given (data_on val old.content) none;
      stands = record {
        fits = subst (λ w. Fits (variables c.change.new.c) w c.change.new.content) (sym (step-size (state_of old) op given none) ∙ ap {A = Control × Stop} {B = ℕ} (λ r. r.0.size) step) change.fits;
        nibbles = change.same ∙ c.requires.stands.nibbles;
        bounds = rw (codes, blocks, extent) at c.step_done.ensures.bounds;
      };
    }

pub returns-in_ok-change-in-None-clause-on_bits : goal.returns-in_ok-change-in-None-clause-on_bits
returns-in_ok-change-in-None-clause-on_bits g c =
    step_on_bits _ _ _ _ _ _ _ c.requires.stands c.mark.ensures.wired c.in_ok-change-in-None.ensures.grows (returns-in_ok-change-in-None-clause-steps g c)
