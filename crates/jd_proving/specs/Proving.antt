-- What a search for a proof answers, and what it may rely on.
use Rattle.std.specs.Prelude.{◌≡◌, ℕ, suc, ◌+◌, ◌^◌, ◌<◌, ℤ, pos, neg_ℤ, Bool, true, false, not, ◌&&◌, ◌||◌, ◌==◌, nat_le, if◌then◌else◌, List, [], ◌∷◌, length, Option, Some, None, Ok, Err}
use Rattle.std.specs.List.{list_any, list_all}
use Rattle.jd_logic.specs.declared.Line.{Line}
use Rattle.jd_logic.specs.declared.Line.TheVariants.{Derive, Delete}
use Rattle.jd_logic.specs.Literals.{has}
use Rattle.jd_logic.specs.Checking.{State, begun, checked, is_empty}
use Rattle.jd_proving.specs.Propagation.{propagated, is_consistent, has_false, has_value, is_exhausted}

-- the literals that values of variables make true, counted from a variable on
abbrev pub literals_from : ℕ → List Bool → List ℤ
literals_from n [] = []
literals_from n (b ∷ bits) = (if b then pos n else neg_ℤ (pos n)) ∷ literals_from (suc n) bits

abbrev pub literals_of : List Bool → List ℤ
literals_of bits = literals_from 1 bits

-- all that unit propagation makes true from values of the first variables
abbrev pub made_true : List (List ℤ) → List Bool → List ℤ
made_true clauses bits = propagated (literals_of bits) clauses

-- values of the inputs make a clause false, or give each variable of the clauses a value
abbrev pub is_decided : List (List ℤ) → List Bool → Bool
is_decided clauses bits =
    let trues = made_true clauses bits in
    has_false trues clauses || list_all (λ c. list_all (has_value trues) c) clauses

-- clauses that values of the first variables decide
abbrev pub AreDecided : List (List ℤ) → ℕ → Type 0
AreDecided clauses inputs = (bits : List Bool) → length bits ≡ inputs → is_decided clauses bits ≡ true

-- values of the inputs make every clause true by propagation
abbrev pub is_model : List (List ℤ) → ℕ → List Bool → Bool
is_model clauses inputs bits =
    let trues = made_true clauses bits in
    length bits == inputs && is_consistent trues clauses && list_all (λ c. list_any (has trues) c) clauses

-- the state after lines that are right
abbrev pub state_after : State → List Line → Option State
state_after s [] = Some s
state_after s (line ∷ lines) = elim (checked s line) [ Ok next ↦ state_after next lines | Err cause ↦ None ]

abbrev pub is_derivation : Line → Bool
is_derivation (Derive id clause hints) = true
is_derivation (Delete ids) = false

abbrev pub is_no_line : List Line → Bool
is_no_line [] = true
is_no_line (line ∷ lines) = false

-- derivations that are right and end with the empty clause, or none where it is given
abbrev pub is_refutation : List (List ℤ) → List Line → Bool
is_refutation clauses log =
    list_all is_derivation log
    && (is_no_line log || not (list_any is_empty clauses))
    && (elim (state_after (begun clauses) log) [ Some s ↦ s.refuted | None ↦ false ])

-- a refutation within a budget of lines
abbrev pub IsRefuted : List (List ℤ) → ℕ → List Line → Type 0
IsRefuted clauses budget log = (is_refutation clauses log && nat_le (length log) budget) ≡ true

abbrev pub IsModel : List (List ℤ) → ℕ → List Bool → Type 0
IsModel clauses inputs bits = is_model clauses inputs bits ≡ true

-- a budget that was spent on lines that are all new, and that is too small to try all values of the inputs
pub record IsUnknown (clauses : List (List ℤ)) (inputs budget : ℕ) (log : List Line) : Type 0 where
  pub exhausted : is_exhausted clauses budget log ≡ true
  pub small : budget < 2 ^ (inputs + 1)
