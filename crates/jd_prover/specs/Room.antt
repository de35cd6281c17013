-- How many lines a search over the inputs' values may still add.
use Rattle.std.specs.Prelude.{ℕ, zero, suc, ◌+◌, ◌^◌, ℤ, pos, List, take, sum_by, if◌then◌else◌}
use Rattle.jd_proving.specs.Propagation.{has_value}

-- how many of so many inputs have no value
abbrev pub open_inputs : List ℤ → ℕ → ℕ
open_inputs trues zero = 0
open_inputs trues (suc n) = (if has_value trues (pos (suc n)) then 0 else 1) + open_inputs trues n

-- as many as there are values of the inputs without one
abbrev pub room_below : ℕ → List ℤ → ℕ
room_below inputs trues = 2 ^ open_inputs trues inputs

-- those below the present node, and those of the other branch of each decision: there the decision's negation stands
-- in its place, and the same inputs have values
abbrev pub room : ℕ → List ℤ → List ℕ → ℕ
room inputs trail limits = room_below inputs trail + sum_by (λ n. room_below inputs (take (n + 1) trail)) limits
