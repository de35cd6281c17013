-- Problems, their starts, and the bits that are free in a start.
use Rattle.std.specs.Prelude.{◌≡◌, ℕ, zero, suc, ◌+◌, ◌/◌, ◌%◌, ◌^◌, ◌≤◌, max, Bool, true, false, ◌&&◌, ◌==◌, nat_lt, if◌then◌else◌, All, List, [], ◌∷◌, ◌++◌, length, map, take, drop, replicate, slice_index, slice_index_or, Option, Some, None}
use Rattle.hp_model.specs.declared.Base.{Base}
use Rattle.hp_model.specs.declared.Mode.{Mode}
use Rattle.hp_model.specs.WordOperations.{bit_number}
use Rattle.hp_model.specs.State.{Data, memory_bytes, blocks_of, register_nibbles}
use Rattle.hp_model.specs.Words.{number_of_bits}
use Rattle.jd_model.specs.declared.assumptions.Assume.{Assume}
use Rattle.hp_model.specs.declared.Extent.{Extent}
use Rattle.jd_model.specs.Assembly.{IsRoutine}
use Rattle.jd_model.specs.Assumptions.{meets, IsAssume, assumption_limit}

-- The parts of a start are X, Y, Z, T, LAST X, the index register, the flags 0 to 5 and the register nibbles. They
-- have the numbers 0 to 12. Each may be observed, and each may be fixed at a number. The routines are lists of codes, and
-- run on a machine of this memory
pub record Problem : Type 0 where
  pub size : ℕ
  pub mode : Mode
  pub base : Base
  pub memory : Extent
  pub steps : ℕ
  pub paths : ℕ
  pub budget : ℕ
  pub observed : List Bool
  pub fixed : List (Option ℕ)
  pub assumed : List Assume
  pub first : List ℕ
  pub second : List ℕ

-- what a part may be fixed at lies below this. The nibbles may be fixed at zero alone
abbrev pub part_limit : ℕ → ℕ → ℕ
part_limit size k = if nat_lt k 5 then 2 ^ size else if k == 5 then 2 ^ 64 else if nat_lt k 12 then 2 else 1

abbrev pub is_fixed_below : ℕ → Option ℕ → Bool
is_fixed_below limit None = true
is_fixed_below limit (Some v) = nat_lt v limit

-- whether the parts from part k on are fixed within their limits
abbrev pub are_fixed_from : ℕ → ℕ → List (Option ℕ) → Bool
are_fixed_from size k [] = true
are_fixed_from size k (f ∷ fs) = is_fixed_below (part_limit size k) f && are_fixed_from size (suc k) fs

-- the ranges of a problem
pub record IsProblem (p : Problem) : Type 0 where
  pub size_least : 1 ≤ p.size
  pub size_most : p.size ≤ 64
  pub steps_least : 1 ≤ p.steps
  pub steps_most : p.steps ≤ 1000
  pub paths_least : 1 ≤ p.paths
  pub paths_most : p.paths ≤ 65_536
  pub budget_least : 1 ≤ p.budget
  pub budget_most : p.budget ≤ 1_048_576
  pub observed_count : length p.observed ≡ 13
  pub fixed_count : length p.fixed ≡ 13
  pub fixed_within : are_fixed_from p.size 0 p.fixed ≡ true
  pub assumed_count : length p.assumed ≤ assumption_limit
  pub assumed_numbers : All IsAssume p.assumed
  pub first_routine : IsRoutine p.first
  pub second_routine : IsRoutine p.second

-- both routines run with the blocks of the longer one
abbrev pub blocks : Problem → ℕ
blocks p = max (blocks_of (length p.first)) (blocks_of (length p.second))

abbrev pub nibble_count : Problem → ℕ
nibble_count p = register_nibbles (memory_bytes p.memory) (blocks p)

-- ---- fields

-- a number of a start: how many bits it has, and what it is fixed at
pub record Field : Type 0 where
  pub width : ℕ
  pub fixed : Option ℕ

-- a number of part k
abbrev pub field : Problem → ℕ → ℕ → Field
field p width k = record { width = width; fixed = slice_index_or p.fixed k None }

-- the numbers of a start in order: those of its content, and the nibbles, which are one part and are fixed together
abbrev pub content_fields : Problem → List Field
content_fields p =
    field p p.size 0 ∷ field p p.size 1 ∷ field p p.size 2 ∷ field p p.size 3 ∷ field p p.size 4 ∷ field p 64 5
    ∷ field p 1 6 ∷ field p 1 7 ∷ field p 1 8 ∷ field p 1 9 ∷ field p 1 10 ∷ field p 1 11 ∷ []

abbrev pub nibble_fields : Problem → List Field
nibble_fields p = replicate (nibble_count p) (field p 4 12)

abbrev pub fields : Problem → List Field
fields p = content_fields p ++ nibble_fields p

-- the numbers of a start's content: the stack, LAST X, the index register and the flags
abbrev pub content_numbers : Data → List ℕ
content_numbers s = s.x ∷ s.y ∷ s.z ∷ s.t ∷ s.last ∷ s.index ∷ map bit_number s.flags

-- the numbers of a start, and the start of these numbers
abbrev pub numbers : Data → List ℕ
numbers s = content_numbers s ++ s.nibbles

abbrev pub start_with : List ℕ → Data
start_with ns = record {
  x = slice_index ns 0;
  y = slice_index ns 1;
  z = slice_index ns 2;
  t = slice_index ns 3;
  last = slice_index ns 4;
  index = slice_index ns 5;
  flags = map (λ n. n == 1) (take 6 (drop 6 ns));
  nibbles = drop 12 ns;
}

-- ---- starts in range, and allowed starts

abbrev pub is_fixed_at : Option ℕ → ℕ → Bool
is_fixed_at None n = true
is_fixed_at (Some v) n = n == v

abbrev pub is_in_field : Field → ℕ → Bool
is_in_field f n = nat_lt n (2 ^ f.width) && is_fixed_at f.fixed n

-- as many numbers as fields, each in its range and with its fixed value
abbrev pub are_in_fields : List Field → List ℕ → Bool
are_in_fields [] [] = true
are_in_fields [] (n ∷ ns) = false
are_in_fields (f ∷ fs) [] = false
are_in_fields (f ∷ fs) (n ∷ ns) = is_in_field f n && are_in_fields fs ns

-- whether a start is in a problem's range: words, nibbles and fixed parts
abbrev pub in_range : Problem → Data → Bool
in_range p s = length s.flags == 6 && are_in_fields (fields p) (numbers s)

-- whether a problem allows a start: it is in range, and each assumption holds of it
abbrev pub allows : Problem → Data → Bool
allows p s = in_range p s && meets p.assumed s

-- ---- free bits

-- the bits of a number, lowest first
abbrev pub bits_of : ℕ → ℕ → List Bool
bits_of zero n = []
bits_of (suc w) n = (n % 2 == 1) ∷ bits_of w (n / 2)

abbrev pub free_width : Field → ℕ
free_width f = elim f.fixed [ None ↦ f.width | Some v ↦ 0 ]

abbrev pub free_widths : List Field → ℕ
free_widths [] = 0
free_widths (f ∷ fs) = free_width f + free_widths fs

-- how many bits of a start are free. Assumptions leave them free
abbrev pub free_bits : Problem → ℕ
free_bits p = free_widths (fields p)

abbrev pub bits_in : List Field → List ℕ → List Bool
bits_in [] ns = []
bits_in (f ∷ fs) [] = []
bits_in (f ∷ fs) (n ∷ ns) = bits_of (free_width f) n ++ bits_in fs ns

-- the free bits of a start, in order
abbrev pub bits : Problem → Data → List Bool
bits p s = bits_in (fields p) (numbers s)

abbrev pub number_in_field : Field → List Bool → ℕ
number_in_field f bs = elim f.fixed [ None ↦ number_of_bits (take f.width bs) | Some v ↦ v ]

abbrev pub numbers_in : List Field → List Bool → List ℕ
numbers_in [] bs = []
numbers_in (f ∷ fs) bs = number_in_field f bs ∷ numbers_in fs (drop (free_width f) bs)

-- the start that has these free bits
abbrev pub start_of : Problem → List Bool → Data
start_of p bs = start_with (numbers_in (fields p) bs)

-- bits and starts in range are one another's inverse
pub record AreBitsOfStarts (p : Problem) : Type 0 where
  pub count : (s : Data) → in_range p s ≡ true → length (bits p s) ≡ free_bits p
  pub start : (s : Data) → in_range p s ≡ true → start_of p (bits p s) ≡ s
  pub ranged : (bs : List Bool) → length bs ≡ free_bits p → in_range p (start_of p bs) ≡ true
  pub same_bits : (bs : List Bool) → length bs ≡ free_bits p → bits p (start_of p bs) ≡ bs
