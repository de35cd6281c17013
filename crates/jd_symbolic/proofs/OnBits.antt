-- What a machine asks and does on each list of bits.
use Rattle.std.proofs.Common.{◌≡◌, ℕ, ◌*◌, ◌/◌, Bool, List, [], ◌∷◌, length, map, take, drop, Option, Some, None, refl, sym, ap, ◌∙◌, arith}
use Rattle.hp_model.specs.declared.Stop.{Stop}
use Rattle.hp_model.specs.Operations.{Operation}
use Rattle.hp_model.specs.State.{Data}
use Rattle.hp_model.specs.Questions.{answers, holds}
use Rattle.hp_model.specs.DataStep.{data_step}
use Rattle.hp_model.proofs.Tabulated.{same_tabulated}
use Rattle.jd_circuit.specs.declared.literals.Lit.{Lit}
use Rattle.jd_circuit.specs.Meaning.{lit_value}
use Rattle.jd_circuit.specs.Net.{Net, Grows, IsWired, variables}
use Rattle.jd_circuit.proofs.Values.{grows_keeps, bits_solve}
use Rattle.jd_vectors.specs.Number.{number, AreOf}
use Rattle.jd_vectors.proofs.Kept.{Inside-take, Inside-drop}
use Rattle.jd_content.specs.declared.content.SymContent.{SymContent}
use Rattle.jd_content.specs.Meaning.{data_on, nibbles_on, Fits}
use Rattle.jd_symbolic.specs.declared.machine.SymMachine.{SymMachine}
use Rattle.jd_symbolic.specs.Machine.{Asks, AsksOnBits, Stands, Steps, StepsOnBits, state_of, val_of}

module _ (a b : Net) (bits : List Bool) (p : Grows a b) (e : length bits ≡ a.inputs) where
  number_kept : (ls : List Lit) → AreOf a ls → number (val_of b bits) ls ≡ number (val_of a bits) ls
  number_kept [] h = refl
  number_kept (l ∷ ls) h =
      let rest = number_kept ls (record { from_one = omega arith; to_last = omega arith }) in
      let first = grows_keeps a b bits l p e (omega arith, omega arith) in
      rw (rest, first) refl

  flags_kept : (ls : List Lit) → AreOf a ls → map (lit_value (val_of b bits)) ls ≡ map (lit_value (val_of a bits)) ls
  flags_kept [] h = refl
  flags_kept (l ∷ ls) h =
      let rest = flags_kept ls (record { from_one = omega arith; to_last = omega arith }) in
      let first = grows_keeps a b bits l p e (omega arith, omega arith) in
      rw (rest, first) refl

  nibbles_kept : (ls : List Lit) → AreOf a ls → nibbles_on (val_of b bits) ls ≡ nibbles_on (val_of a bits) ls
  nibbles_kept ls h = same_tabulated _ _ (length ls / 4) (λ j below. number_kept (take 4 (drop (4 * j) ls)) (Inside-take _ 4 _ (Inside-drop _ (4 * j) ls h)))

  -- data mean what they meant before gates were added
  pub data_kept : (w : ℕ) (c : SymContent) → Fits (variables a) w c → data_on (val_of b bits) c ≡ data_on (val_of a bits) c
  data_kept w c h = rw (
    number_kept c.x h.x.inside,
    number_kept c.y h.y.inside,
    number_kept c.z h.z.inside,
    number_kept c.t h.t.inside,
    number_kept c.l h.l.inside,
    number_kept c.i h.i.inside,
    flags_kept c.flags h.flags,
    nibbles_kept c.nibbles h.nibbles,
  ) refl

-- told of all values that solve the gates, so on each list of bits
pub step_on_bits : (a b : Net) (old new : SymMachine) (stop : Stop) (op : Operation) (given : List Bool) → Stands a old → IsWired b.inputs b.gates → Grows a b → Steps b old new stop op given
    → StepsOnBits a b old new op given
step_on_bits a b old new stop op given h w grows s = λ bits e g.
    let kept = data_kept a b bits grows e old.control.size.bits old.content h.fits in
    s.contents (val_of b bits) (bits_solve b bits (e ∙ sym grows.inputs) w) (ap (answers (state_of old) op) kept ∙ g)
    ∙ ap (data_step (state_of old) op given) kept

pub asks_on_bits : (a b : Net) (m : SymMachine) (op : Operation) (given : List Bool) (asked : Option Lit) → Stands a m → IsWired b.inputs b.gates → Grows a b → Asks b m op given asked
    → AsksOnBits a b m op given asked
asks_on_bits a b m op given None h w grows s = s
asks_on_bits a b m op given (Some l) h w grows s = (
  s.question,
  s.next,
  λ bits e g.
      let kept = data_kept a b bits grows e m.control.size.bits m.content h.fits in
      s.means (val_of b bits) (bits_solve b bits (e ∙ sym grows.inputs) w) (ap (λ (d : Data). take (length given) (answers (state_of m) op d)) kept ∙ g)
      ∙ ap (holds s.question (state_of m)) kept,
)
