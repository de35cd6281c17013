-- Unit propagation, and logs each of whose lines gives it something new.
use Rattle.std.specs.Prelude.{ℕ, zero, suc, ℤ, neg_ℤ, Bool, true, false, not, ◌&&◌, ◌||◌, ◌==◌, List, [], ◌∷◌, ◌++◌, length, Some, None}
use Rattle.std.specs.List.{list_any}
use Rattle.jd_logic.specs.declared.Line.{Line}
use Rattle.jd_logic.specs.declared.Line.TheVariants.{Derive, Delete}
use Rattle.jd_logic.specs.declared.Left.TheVariants.{Falsified, Unit, Open}
use Rattle.jd_logic.specs.Literals.{has, with_literal, with_negations, left_of, left}
use Rattle.jd_logic.specs.Checking.{State, begun, with_clause, derivation_fault, is_empty}

-- the true literals with the one that a clause gives
abbrev pub with_unit : List ℤ → List ℤ → List ℤ
with_unit trues clause = elim (left trues clause) [ Falsified ↦ trues | Unit l ↦ with_literal trues l | Open ↦ trues ]

-- each clause in turn, once
abbrev pub round : List ℤ → List (List ℤ) → List ℤ
round trues [] = trues
round trues (c ∷ cs) = round (with_unit trues c) cs

abbrev pub rounds : ℕ → List ℤ → List (List ℤ) → List ℤ
rounds zero trues clauses = trues
rounds (suc n) trues clauses = rounds n (round trues clauses) clauses

-- all that unit propagation makes true. A clause gives one literal at most, so as many rounds as clauses suffice
abbrev pub propagated : List ℤ → List (List ℤ) → List ℤ
propagated trues clauses = rounds (length clauses) trues clauses

-- all literals of some clause are false
abbrev pub has_false : List ℤ → List (List ℤ) → Bool
has_false trues clauses = list_any (λ c. is_empty (left_of trues c)) clauses

-- some literal stands beside its negation
abbrev pub has_opposites : List ℤ → Bool
has_opposites trues = list_any (λ l. has trues (neg_ℤ l)) trues

abbrev pub is_consistent : List ℤ → List (List ℤ) → Bool
is_consistent trues clauses = not (has_opposites trues) && not (has_false trues clauses)

abbrev pub has_value : List ℤ → ℤ → Bool
has_value trues l = has trues l || has trues (neg_ℤ l)

-- whether unit propagation leaves a literal without a value, once `before` are false
abbrev pub leaves_open : List (List ℤ) → List ℤ → ℤ → Bool
leaves_open clauses before l =
    let trues = propagated (with_negations [] before) clauses in
    is_consistent trues clauses && not (has_value trues l)

abbrev pub is_new_after : List (List ℤ) → List ℤ → List ℤ → Bool
is_new_after clauses before [] = false
is_new_after clauses before (l ∷ []) = leaves_open clauses before l
is_new_after clauses before (l ∷ m ∷ ls) = is_new_after clauses (before ++ l ∷ []) (m ∷ ls)

-- whether a clause gives unit propagation over the others something new: where its literals but the last are
-- false, the last has no value
abbrev pub is_new : List (List ℤ) → List ℤ → Bool
is_new clauses clause = is_new_after clauses [] clause

-- whether each line is a derivation from what stands before, and new
abbrev pub all_new : State → List (List ℤ) → List Line → Bool
all_new s clauses [] = true
all_new s clauses (Delete ids ∷ lines) = false
all_new s clauses (Derive id clause hints ∷ lines) = elim (derivation_fault s id clause hints) [
  | Some cause ↦ false
  | None ↦ is_new clauses clause && all_new (with_clause s id clause) (clauses ++ clause ∷ []) lines
]

-- a log of so many lines, all new
abbrev pub is_exhausted : List (List ℤ) → ℕ → List Line → Bool
is_exhausted clauses budget log = length log == budget && all_new (begun clauses) clauses log
