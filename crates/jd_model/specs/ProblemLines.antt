-- The lines of a problem's text one by one: their kinds and their order in each version, what they say, the ranges of
-- their numbers, and what they set.
use Rattle.std.specs.Prelude.{ℕ, suc, Bool, true, false, ◌&&◌, ◌||◌, ◌==◌, nat_le, if◌then◌else◌, List, [], ◌∷◌, ◌++◌, codes, position, slice_set, Option, Some, None, option_map}
use Rattle.hp_model.specs.declared.Base.TheVariants as bases
use Rattle.hp_model.specs.declared.Base.{Base as BaseOf}
use Rattle.hp_model.specs.declared.Mode.TheVariants as modes
use Rattle.hp_model.specs.declared.Mode.{Mode as ModeOf}
use Rattle.jd_text.specs.Words.{is_text}
use Rattle.hp_model.specs.declared.Extent.{Extent}
use Rattle.hp_model.specs.declared.Extent.TheVariants as extents
use Rattle.jd_model.specs.declared.assumptions.NumPart.{NumPart}
use Rattle.jd_model.specs.declared.assumptions.NumPart.TheVariants as parts_of
use Rattle.jd_model.specs.declared.assumptions.Relation.{Relation}
use Rattle.jd_model.specs.declared.assumptions.Relation.TheVariants.{Lt, Le, Eq, Ne}
use Rattle.jd_model.specs.declared.assumptions.Against.{Against}
use Rattle.jd_model.specs.declared.assumptions.Against.TheVariants as against
use Rattle.jd_model.specs.declared.assumptions.Assume.{Assume as AssumeOf}
use Rattle.jd_model.specs.declared.line_kinds.Version.{Version}
use Rattle.jd_model.specs.declared.line_kinds.Version.TheVariants.{One, Two}
use Rattle.jd_model.specs.declared.line_kinds.LineKind.{LineKind}
use Rattle.jd_model.specs.declared.line_kinds.LineKind.TheVariants.{Problem, Size, Mode, Base, Memory, Steps, Paths, Budget, Observe, Fix, Assume, First, Second, End}
use Rattle.hp_model.specs.State.{memory_bytes}
use Rattle.jd_text.specs.Digits.{decimal_number, hexadecimal_number}
use Rattle.jd_model.specs.Problems.{Problem as ProblemOf}

-- the first of some things whose name is a word
abbrev pub named_as : {A : Type 0} → (A → List ℕ) → List A → List ℕ → Option A
named_as name [] word = None
named_as name (a ∷ more) word = if is_text (name a) word then Some a else named_as name more word

-- ---- kinds and their order

-- the first word of a line
abbrev pub kind_name : LineKind → List ℕ
kind_name Problem = codes "problem"
kind_name Size = codes "word"
kind_name Mode = codes "mode"
kind_name Base = codes "base"
kind_name Memory = codes "memory"
kind_name Steps = codes "steps"
kind_name Paths = codes "paths"
kind_name Budget = codes "budget"
kind_name Observe = codes "observe"
kind_name Fix = codes "fix"
kind_name Assume = codes "assume"
kind_name First = codes "first"
kind_name Second = codes "second"
kind_name End = codes "end"

-- the lines in their order. Each header and each section word, `first`, `second` and `end`, stands once. `fix` and `assume`
-- lines may be any number or none
abbrev pub headers : List LineKind
headers = Problem ∷ Size ∷ Mode ∷ Base ∷ Memory ∷ Steps ∷ Paths ∷ Budget ∷ Observe ∷ []

abbrev pub after_headers : List LineKind
after_headers = Fix ∷ Assume ∷ First ∷ Second ∷ End ∷ []

abbrev pub kinds : List LineKind
kinds = headers ++ after_headers

-- whether a version has lines of a kind
abbrev pub is_of_version : LineKind → Version → Bool
is_of_version Memory One = false
is_of_version Memory Two = true
is_of_version Assume One = false
is_of_version Assume Two = true
is_of_version kind version = true

-- the kind of a line by its first word
abbrev pub kind_of : Version → List ℕ → Option LineKind
kind_of version word = elim (named_as kind_name kinds word) [
  | None ↦ None
  | Some kind ↦ if is_of_version kind version then Some kind else None
]

-- the place of a line among headers and section words. That of a line of which there may be many is the place of `first`,
-- before which it stands
abbrev pub place_of : LineKind → ℕ
place_of Problem = 0
place_of Size = 1
place_of Mode = 2
place_of Base = 3
place_of Memory = 4
place_of Steps = 5
place_of Paths = 6
place_of Budget = 7
place_of Observe = 8
place_of Fix = 9
place_of Assume = 9
place_of First = 9
place_of Second = 10
place_of End = 11

-- the place of the header or section word that is due after a line. Version 1 has no `memory` line
abbrev pub place_after : LineKind → Version → ℕ
place_after Base One = place_of Steps
place_after Base Two = place_of Memory
place_after Fix version = place_of First
place_after Assume version = place_of First
place_after kind version = suc (place_of kind)

-- ---- parts

abbrev pub part_names : List (List ℕ)
part_names =
    codes "X" ∷ codes "Y" ∷ codes "Z" ∷ codes "T" ∷ codes "L" ∷ codes "I"
    ∷ codes "F0" ∷ codes "F1" ∷ codes "F2" ∷ codes "F3" ∷ codes "C" ∷ codes "G" ∷ codes "M" ∷ []

-- the number of the part with this name
abbrev pub part_named : List ℕ → Option ℕ
part_named word = position (λ name. is_text name word) part_names

-- ---- assumptions

abbrev pub num_parts : List NumPart
num_parts = parts_of.X ∷ parts_of.Y ∷ parts_of.Z ∷ parts_of.T ∷ parts_of.L ∷ parts_of.I ∷ []

abbrev pub num_part_name : NumPart → List ℕ
num_part_name parts_of.X = codes "X"
num_part_name parts_of.Y = codes "Y"
num_part_name parts_of.Z = codes "Z"
num_part_name parts_of.T = codes "T"
num_part_name parts_of.L = codes "L"
num_part_name parts_of.I = codes "I"

abbrev pub num_part_named : List ℕ → Option NumPart
num_part_named word = named_as num_part_name num_parts word

abbrev pub relations : List Relation
relations = Lt ∷ Le ∷ Eq ∷ Ne ∷ []

abbrev pub relation_name : Relation → List ℕ
relation_name Lt = codes "lt"
relation_name Le = codes "le"
relation_name Eq = codes "eq"
relation_name Ne = codes "ne"

abbrev pub relation_named : List ℕ → Option Relation
relation_named word = named_as relation_name relations word

-- a part, or a number in hexadecimal digits
abbrev pub against_named : List ℕ → Option Against
against_named word = elim (num_part_named word) [
  | Some part ↦ Some (against.Part part)
  | None ↦ option_map against.Number (hexadecimal_number word)
]

abbrev pub assumption : Option NumPart → Option Relation → Option Against → Option AssumeOf
assumption (Some left) (Some relation) (Some right) = Some (record { left = left; relation = relation; right = right })
assumption _ _ _ = None

-- ---- what a well-formed line says after its first word

pub data Said : Type 0 where
  nothing : Said
  number : ℕ → Said
  parts : List ℕ → Said
  part_at : ℕ → ℕ → Said
  assuming : AssumeOf → Said

abbrev pub one_number : List (List ℕ) → Option Said
one_number (word ∷ []) = option_map number (decimal_number word)
one_number _ = None

abbrev pub with_part : Option ℕ → Option (List ℕ) → Option (List ℕ)
with_part (Some k) (Some ks) = Some (k ∷ ks)
with_part _ _ = None

abbrev pub parts_named : List (List ℕ) → Option (List ℕ)
parts_named [] = Some []
parts_named (word ∷ words) = with_part (part_named word) (parts_named words)

abbrev pub part_and_value : Option ℕ → Option ℕ → Option Said
part_and_value (Some k) (Some n) = Some (part_at k n)
part_and_value _ _ = None

abbrev pub one_part_and_value : List (List ℕ) → Option Said
one_part_and_value (word ∷ value ∷ []) = part_and_value (part_named word) (hexadecimal_number value)
one_part_and_value _ = None

abbrev pub one_assumption : List (List ℕ) → Option Said
one_assumption (left ∷ relation ∷ right ∷ []) =
    option_map assuming (assumption (num_part_named left) (relation_named relation) (against_named right))
one_assumption _ = None

abbrev pub no_words : List (List ℕ) → Option Said
no_words [] = Some nothing
no_words _ = None

-- None where the line isn't formed as its kind says
abbrev pub said : LineKind → List (List ℕ) → Option Said
said Observe words = option_map parts (parts_named words)
said Fix words = one_part_and_value words
said Assume words = one_assumption words
said First words = no_words words
said Second words = no_words words
said End words = no_words words
said _ words = one_number words

-- ---- ranges

abbrev pub is_between : ℕ → ℕ → ℕ → Bool
is_between low high n = nat_le low n && nat_le n high

-- whether a number is in the range of its line
abbrev pub is_in_range : LineKind → ℕ → Bool
is_in_range Problem n = n == 1 || n == 2
is_in_range Size n = is_between 1 64 n
is_in_range Mode n = nat_le n 2
is_in_range Base n = n == 16 || n == 10 || n == 8 || n == 2
is_in_range Memory n = n == memory_bytes extents.Standard || n == memory_bytes extents.Large
is_in_range Steps n = is_between 1 1000 n
is_in_range Paths n = is_between 1 65_536 n
is_in_range Budget n = is_between 1 1_048_576 n
is_in_range _ n = true

-- ---- what a line sets

abbrev pub mode_of : ℕ → ModeOf
mode_of n = if n == 0 then modes.Unsigned else if n == 1 then modes.Ones else modes.Twos

abbrev pub base_of : ℕ → BaseOf
base_of n = if n == 16 then bases.Hex else if n == 10 then bases.Dec else if n == 8 then bases.Oct else bases.Bin

abbrev pub memory_of : ℕ → Extent
memory_of n = if n == memory_bytes extents.Standard then extents.Standard else extents.Large

-- the same list, but true at these places
abbrev pub marked : List Bool → List ℕ → List Bool
marked bs [] = bs
marked bs (k ∷ ks) = marked (slice_set bs k true) ks

abbrev pub with_said : LineKind → Said → ProblemOf → ProblemOf
with_said Size (number n) p = record p { size = n }
with_said Mode (number n) p = record p { mode = mode_of n }
with_said Base (number n) p = record p { base = base_of n }
with_said Memory (number n) p = record p { memory = memory_of n }
with_said Steps (number n) p = record p { steps = n }
with_said Paths (number n) p = record p { paths = n }
with_said Budget (number n) p = record p { budget = n }
with_said Observe (parts ks) p = record p { observed = marked p.observed ks }
with_said Fix (part_at k n) p = record p { fixed = slice_set p.fixed k (Some n) }
with_said Assume (assuming a) p = record p { assumed = p.assumed ++ a ∷ [] }
with_said _ _ p = p
