-- What literals of data mean, and which places and sizes answers name, worked by computation.
use Rattle.std.proofs.Common.{◌≡◌, ℕ, ◌==◌, Bool, true, false, List, Some, None, [], ◌∷◌, replicate, refl, arith}
use Rattle.hp_model.specs.State.{Data}
use Rattle.hp_model.specs.Operations as ops
use Rattle.jd_circuit.specs.declared.literals.Lit.{Lit}
use Rattle.jd_circuit.specs.declared.literals.Lit.TheVariants.{Const, Var, Not}
use Rattle.jd_content.specs.declared.content.SymContent.{SymContent}
use Rattle.jd_content.specs.Meaning.{data_on, flag_after, nibble_on, nibbles_on}
use Rattle.jd_content.specs.Places.{IsInside, IsSize}

-- variable 2 is true, the others are false
abbrev second : ℕ → Bool
second v = v == 2

-- two nibbles, the lower one first
abbrev two_nibbles : List Lit
two_nibbles = Var 2 ∷ Var 1 ∷ Const false ∷ Not 1 ∷ Not 2 ∷ Const true ∷ Var 1 ∷ Var 1 ∷ []

lower_nibble : nibble_on second two_nibbles 0 ≡ 9
lower_nibble = refl

both_nibbles : nibbles_on second two_nibbles ≡ 9 ∷ 2 ∷ []
both_nibbles = refl

-- words of two bits
abbrev content : SymContent
content = record {
  x = Var 2 ∷ Var 1 ∷ [];
  y = Var 1 ∷ Var 2 ∷ [];
  z = Const true ∷ Const true ∷ [];
  t = Not 2 ∷ Not 1 ∷ [];
  l = Const false ∷ Const false ∷ [];
  i = Var 2 ∷ replicate 63 (Const false);
  flags = Var 2 ∷ Not 2 ∷ Const false ∷ Const true ∷ Var 1 ∷ Not 1 ∷ [];
  nibbles = two_nibbles;
}

abbrev data_of_content : Data
data_of_content = record {
  x = 1;
  y = 2;
  z = 3;
  t = 2;
  last = 0;
  index = 1;
  flags = true ∷ false ∷ false ∷ true ∷ false ∷ true ∷ [];
  nibbles = 9 ∷ 2 ∷ [];
}

content_means : data_on second content ≡ data_of_content
content_means = refl

flag_stays : flag_after 1 None (true ∷ false ∷ []) ≡ true ∷ false ∷ []
flag_stays = refl

flag_is_set : flag_after 1 (Some true) (true ∷ false ∷ []) ≡ true ∷ true ∷ []
flag_is_set = refl

-- of 406 nibbles, registers of 16 bits are those from 0 to 100
last_register : IsInside 16 406 (ops.register 100) []
last_register = omega arith

-- the index register isn't past the registers, and is 3
third_register : IsInside 16 406 ops.through_index (false ∷ true ∷ true ∷ [])
third_register = record { first = refl; below = omega arith }

-- the magnitude isn't above 64, and is 4
four_bits : IsSize (false ∷ false ∷ false ∷ true ∷ false ∷ false ∷ false ∷ false ∷ [])
four_bits = record { few = omega arith; first = refl; small = omega arith }
