-- Inputs, and the fields of a problem of 8 bits whose Y is fixed, worked by computation.
use Rattle.std.proofs.Common.{◌≡◌, true, false, [], ◌∷◌, replicate, Some, None, refl}
use Rattle.hp_model.specs.declared.Base.TheVariants.{Hex}
use Rattle.hp_model.specs.declared.Extent.TheVariants.{Standard}
use Rattle.hp_model.specs.declared.Mode.TheVariants.{Twos}
use Rattle.jd_model.specs.Problems.{Problem, free_widths, numbers_in}
use Rattle.jd_circuit.specs.declared.literals.Lit.TheVariants.{Const, Var, Not}
use Rattle.jd_circuit.specs.Net.{at}
use Rattle.jd_vectors.specs.Number.{number}
use Rattle.jd_content.specs.Meaning.{nibbles_on}
use Rattle.jd_inputs.specs.Inputs.{flag_fields, flag_numbers, inputs_from, word_fields, word_numbers}
use Rattle.jd_inputs.specs.Nibbles.{free_nibble, zero_nibble}

-- ---- inputs

three : inputs_from 3 2 ≡ Var 3 ∷ Var 4 ∷ Var 5 ∷ []
three = refl

-- the lowest bit comes first
five : number (at (false ∷ false ∷ true ∷ false ∷ true ∷ [])) (inputs_from 3 2) ≡ 5
five = refl

flags : flag_numbers (at (true ∷ false ∷ [])) (Var 1 ∷ Var 2 ∷ Const true ∷ Not 1 ∷ []) ≡ 1 ∷ 0 ∷ 1 ∷ 0 ∷ []
flags = refl

words : word_numbers (at (true ∷ true ∷ [])) (record { x = Var 1 ∷ Var 2 ∷ []; y = Const false ∷ Var 1 ∷ []; z = []; t = []; l = Not 1 ∷ []; i = Const true ∷ [] }) ≡ 3 ∷ 2 ∷ 0 ∷ 0 ∷ 0 ∷ 1 ∷ []
words = refl

-- ---- fields

abbrev problem : Problem
problem = record {
  size = 8;
  mode = Twos;
  base = Hex;
  memory = Standard;
  steps = 1;
  paths = 1;
  budget = 1;
  observed = replicate 13 true;
  fixed = None ∷ Some 7 ∷ None ∷ None ∷ None ∷ None ∷ None ∷ None ∷ None ∷ Some 1 ∷ None ∷ None ∷ Some 0 ∷ [];
  assumed = [];
  first = [];
  second = [];
}

-- four words of 8 bits and the index register, and five flags
word_bits : free_widths (word_fields problem) ≡ 96
word_bits = refl

flag_bits : free_widths (flag_fields problem) ≡ 5
flag_bits = refl

flags_of_bits : numbers_in (flag_fields problem) (true ∷ false ∷ true ∷ true ∷ false ∷ []) ≡ 1 ∷ 0 ∷ 1 ∷ 1 ∷ 1 ∷ 0 ∷ []
flags_of_bits = refl

-- ---- nibbles

free_nibbles : numbers_in (free_nibble ∷ free_nibble ∷ []) (true ∷ false ∷ false ∷ true ∷ false ∷ true ∷ false ∷ false ∷ []) ≡ 9 ∷ 2 ∷ []
free_nibbles = refl

as_literals : nibbles_on (at (true ∷ false ∷ false ∷ true ∷ false ∷ true ∷ false ∷ false ∷ [])) (inputs_from 8 0) ≡ 9 ∷ 2 ∷ []
as_literals = refl

fixed_nibbles : numbers_in (zero_nibble ∷ free_nibble ∷ []) (true ∷ true ∷ false ∷ false ∷ []) ≡ 0 ∷ 3 ∷ []
fixed_nibbles = refl
