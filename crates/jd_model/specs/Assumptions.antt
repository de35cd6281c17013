-- Whether what a problem assumes of its starts holds of one.
use Rattle.std.specs.Prelude.{ℕ, ◌<◌, ◌^◌, Bool, not, ◌==◌, nat_lt, nat_le, List}
use Rattle.std.specs.List.{list_all}
use Rattle.hp_model.specs.State.{Data}
use Rattle.jd_model.specs.declared.assumptions.NumPart.{NumPart}
use Rattle.jd_model.specs.declared.assumptions.NumPart.TheVariants.{X, Y, Z, T, L, I}
use Rattle.jd_model.specs.declared.assumptions.Relation.{Relation}
use Rattle.jd_model.specs.declared.assumptions.Relation.TheVariants.{Lt, Le, Eq, Ne}
use Rattle.jd_model.specs.declared.assumptions.Against.{Against}
use Rattle.jd_model.specs.declared.assumptions.Against.TheVariants.{Part, Number}
use Rattle.jd_model.specs.declared.assumptions.Assume.{Assume}

abbrev pub part_value : NumPart → Data → ℕ
part_value X s = s.x
part_value Y s = s.y
part_value Z s = s.z
part_value T s = s.t
part_value L s = s.last
part_value I s = s.index

abbrev pub against_value : Against → Data → ℕ
against_value (Part part) s = part_value part s
against_value (Number n) s = n

-- patterns are compared as whole numbers, in every mode
abbrev pub relates : Relation → ℕ → ℕ → Bool
relates Lt m n = nat_lt m n
relates Le m n = nat_le m n
relates Eq m n = m == n
relates Ne m n = not (m == n)

-- whether one assumption holds of a start, and whether all of them do
abbrev pub holds : Assume → Data → Bool
holds a s = relates a.relation (part_value a.left s) (against_value a.right s)

abbrev pub meets : List Assume → Data → Bool
meets assumed s = list_all (λ a. holds a s) assumed

-- the number that stands in an assumption, if one does, has at most 64 bits
abbrev pub number_in : Against → ℕ
number_in (Part part) = 0
number_in (Number n) = n

abbrev pub IsAssume : Assume → Type 0
IsAssume a = number_in a.right < 2 ^ 64

abbrev pub assumption_limit : ℕ
assumption_limit = 64
