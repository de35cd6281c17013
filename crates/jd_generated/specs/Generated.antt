-- The problem that is generated for a number: two routines that draw the same steps, each in its own words.
use Rattle.std.specs.Prelude.{ℕ, zero, suc, ◌==◌, if◌then◌else◌, ◌+◌, ◌*◌, ◌/◌, ◌%◌, ◌^◌, List, [], ◌∷◌, ◌++◌, length, map, replicate, codes, decimal, true, false, Some, None}
use Rattle.hp_model.specs.declared.Base.TheVariants.{Hex}
use Rattle.hp_model.specs.declared.Mode.TheVariants.{Unsigned}
use Rattle.hp_model.specs.declared.Extent.TheVariants.{Standard}
use Rattle.hp_model.specs.Operations.{Operation}
use Rattle.hp_model.specs.Operations as ops
use Rattle.hp_model.specs.Codes.{code_of}
use Rattle.jd_model.specs.Problems.{Problem}

-- the five things that may be drawn: twice X, -X-1 as NOT, -X, a turn to the left, and X + 5
pub data Draw : Type 0 where
  double complement negation turn five_more : Draw

abbrev pub draw_of : ℕ → Draw
draw_of k =
    if k == 0 then double else if k == 1 then complement else if k == 2 then negation else if k == 3 then turn else five_more

-- the state of the generator after one more draw
abbrev pub drawn : ℕ → ℕ
drawn s = (1664525 * s + 1013904223) % 2 ^ 32

-- so many draws
abbrev pub draws : ℕ → ℕ → List Draw
draws zero s = []
draws (suc count) s = draw_of (drawn s / 65536 % 5) ∷ draws count (drawn s)

-- what a draw appends to the first and to the second routine
abbrev pub in_first : Draw → List Operation
in_first double = ops.shift_left ∷ []
in_first complement = ops.bits_not ∷ []
in_first negation = ops.change_sign ∷ []
in_first turn = ops.rotate ops.left ∷ []
in_first five_more = ops.digit 5 ∷ ops.add ∷ []

abbrev pub in_second : Draw → List Operation
in_second double = ops.enter ∷ ops.add ∷ []
in_second complement = ops.change_sign ∷ ops.digit 1 ∷ ops.subtract ∷ []
in_second negation = ops.bits_not ∷ ops.digit 1 ∷ ops.add ∷ []
in_second turn = replicate 7 (ops.rotate ops.right)
in_second five_more = ops.digit 3 ∷ ops.add ∷ ops.digit 2 ∷ ops.add ∷ []

abbrev pub appended : (Draw → List Operation) → List Draw → List Operation
appended words [] = []
appended words (draw ∷ rest) = words draw ++ appended words rest

-- both routines begin with a test, so that there are two paths
abbrev pub routine : (Draw → List Operation) → List Draw → List ℕ
routine words drawn_steps = map code_of (ops.test ops.is_zero ∷ ops.bits_not ∷ appended words drawn_steps)

abbrev pub draws_for : ℕ → List Draw
draws_for n = draws (1 + n % 24) n

-- 8 bits, unsigned; X is free, and X, Y and Z are observed
abbrev pub generated : ℕ → Problem
generated n = record {
  size = 8;
  mode = Unsigned;
  base = Hex;
  memory = Standard;
  steps = 500;
  paths = 64;
  budget = 1_048_576;
  observed = true ∷ true ∷ true ∷ replicate 10 false;
  fixed = None ∷ replicate 12 (Some 0);
  assumed = [];
  first = routine in_first (draws_for n);
  second = routine in_second (draws_for n);
}

-- what is printed of it
abbrev pub summary : ℕ → List ℕ
summary n =
    codes "gen " ++ decimal n ++ codes " lines " ++ decimal (length (generated n).first) ++ codes " "
    ++ decimal (length (generated n).second) ++ codes " equal\n"
