-- The word size that the answers to WSIZE spell.
use Rattle.std.proofs.Common.{◌≡◌, ℕ, ◌≤◌, Bool, false, eqb, nat_lt, List, ◌∷◌, map, None, arith, refl, sym, ap, ◌∙◌, if◌then◌else◌}
use Rattle.std.proofs.lemmas.Bool.Decides.{nat_tests}
use Rattle.hp_model.specs.Words.{bit}
use Rattle.hp_model.specs.State.{Control, Data}
use Rattle.hp_model.specs.Questions.{answers, numbers_below, x_magnitude}
use Rattle.hp_model.specs.DataStep.{data_step, with_size, with_x, dropped}
use Rattle.hp_model.specs.ControlStep.{error_of, number_given, size_given}
use Rattle.hp_model.specs.Operations as ops
use Rattle.hp_model.proofs.Bits.{bits-spell}
use Rattle.hp_control.proofs.Erring.{data_goes}

-- the answers that spell a size
abbrev pub size_spelled : ℕ → List Bool
size_spelled n = false ∷ map (bit n) (numbers_below 7)

abbrev pub Sized : Control → Data → List Bool → Type 0
Sized c d given =
    (given ≡ answers c ops.set_size d) × (data_step c ops.set_size given d ≡ with_size (size_given given) (with_x d.y (dropped d)))

-- up to 64 the magnitude of X becomes the word size
pub sized : (c : Control) (d : Data) → x_magnitude c d ≤ 64 → Sized c d (size_spelled (x_magnitude c d))
sized c d small =
    let n = x_magnitude c d in
    let below : nat_lt 64 n ≡ false = grind (arith, nat_tests) in
    let spells : number_given (size_spelled n) ≡ n = bits-spell n 7 (omega arith) in
    let none : error_of c ops.set_size (size_spelled n) ≡ None = rw (spells, below) refl in
    let size : size_given (size_spelled n) ≡ (if eqb n 0 then 64 else n) = ap (λ k. if eqb k 0 then 64 else k) spells in
    (rw below refl, sym (data_goes c ops.set_size (size_spelled n) d none) ∙ ap (λ w. with_size w (with_x d.y (dropped d))) (sym size))
