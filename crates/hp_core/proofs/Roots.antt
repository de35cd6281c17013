-- The square root in X.
use Rattle.std.proofs.Common.{◌≡◌, [], ◌∷◌, false, ap, sym, refl}
use Rattle.std.specs.Prelude.{pos, int_lt}
use Rattle.hp_model.specs.declared.Answer.{Answer}
use Rattle.hp_model.specs.Operations as ops
use Rattle.hp_model.specs.State.{Control, Data}
use Rattle.hp_model.specs.WordOperations.{root_of}
use Rattle.hp_model.specs.Questions.{answers, x_value}
use Rattle.hp_model.specs.DataStep.{data_step, of_x}

abbrev pub Rooted : Control → Data → Answer → Type 0
Rooted c d answer =
    (false ∷ [] ≡ answers c ops.square_root d) × (data_step c ops.square_root (false ∷ []) d ≡ of_x answer d)

-- where X isn't negative
pub rooted : (c : Control) (d : Data) (answer : Answer) → int_lt (x_value c d) (pos 0) ≡ false → answer ≡ root_of c.size c.mode d.x → Rooted c d answer
rooted c d answer real is = (rw real refl, ap (λ a. of_x a d) (sym is))
