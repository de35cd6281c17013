-- A walk as contracts see it: its problem, its circuit, its path with the guards, what `next` said there, the questions
-- answered with no, and whether it is spent.
use Rattle.std.specs.Prelude.{◌≡◌, ℕ, ◌+◌, ◌-◌, ◌*◌, ◌^◌, Bool, true, false, not, List, [], ◌∷◌, ◌++◌, length, map, take, Option, Some, None}
use Rattle.hp_model.specs.State.{Data}
use Rattle.jd_circuit.specs.declared.literals.Lit.{Lit}
use Rattle.jd_circuit.specs.declared.literals.Lit.TheVariants.{Const}
use Rattle.jd_circuit.specs.Meaning.{opposite}
use Rattle.jd_circuit.specs.Net.{Net, eval}
use Rattle.jd_model.specs.Problems.{Problem, bits}
use Rattle.jd_model.specs.Seen.{agree}
use Rattle.jd_model.specs.Assumptions.{holds}
use Rattle.jd_model.specs.Problems.{in_range}
use Rattle.jd_books.specs.Leaves.{all_hold}
use Rattle.jd_books.specs.Paths.{AsksAfter, OverAfter, answers_of_start, begins, next_path}
use Rattle.jd_walk.specs.declared.places.Next.{Next}
use Rattle.jd_walk.specs.declared.places.Next.TheVariants.{Ask, Done}

-- a question answered with no: how many gates stood there, and its literal
pub record AnsweredNo : Type 0 where
  pub gates : ℕ
  pub ask : Lit

pub record Walked : Type 0 where
  pub problem : Problem
  pub net : Net
  pub path : List Bool
  pub guards : List Lit
  pub next : Option Next
  pub noes : List AnsweredNo
  pub spent : Bool

-- what follows of each start in range on whose bits the guards are true
abbrev pub WhereGuarded : Walked → (Data → Type 0) → Type 0
WhereGuarded w P = (s : Data) → in_range w.problem s ≡ true → all_hold w.net w.guards (bits w.problem s) ≡ true → P s

-- control asks after the path, and a literal means the answer
pub record IsAsking (w : Walked) (l : Lit) : Type 0 where
  pub asks : AsksAfter w.problem w.path
  pub means : WhereGuarded w (λ s. eval w.net (bits w.problem s) l ≡ begins (w.path ++ true ∷ []) (answers_of_start w.problem s))

-- both runs are over after the path, and a literal means that the two aren't seen the same
pub record IsOverAt (w : Walked) (l : Lit) : Type 0 where
  pub over : OverAfter w.problem w.path
  pub means : WhereGuarded w (λ s. eval w.net (bits w.problem s) l ≡ not (agree w.problem s))

-- what `next` says of the place
abbrev pub NextIs : Walked → Next → Type 0
NextIs w (Ask l) = IsAsking w l
NextIs w (Done l) = IsOverAt w l

-- whether the last `next` asked, or said that both runs are over
abbrev pub has_asked : Option Next → Bool
has_asked (Some (Ask l)) = true
has_asked _ = false

abbrev pub is_done : Option Next → Bool
is_done (Some (Done l)) = true
is_done _ = false

-- the literal of the question
abbrev pub asked_literal : Option Next → Lit
asked_literal (Some (Ask l)) = l
asked_literal _ = Const true

-- the guard of an answer
abbrev pub guard_of : Lit → Bool → Lit
guard_of l true = l
guard_of l false = opposite l

-- the questions answered with no, after an answer
abbrev pub noes_after : Bool → List AnsweredNo → AnsweredNo → List AnsweredNo
noes_after true before now = before
noes_after false before now = before ++ now ∷ []

-- the walk after an answer
abbrev pub answered : Walked → Bool → Walked
answered w a = record w {
  path = w.path ++ a ∷ [];
  guards = w.guards ++ guard_of (asked_literal w.next) a ∷ [];
  next = None;
  noes = noes_after a w.noes (record { gates = length w.net.gates; ask = asked_literal w.next });
}

-- the last question answered with no
abbrev pub last_no : List AnsweredNo → AnsweredNo
last_no [] = record { gates = 0; ask = Const true }
last_no (first ∷ []) = first
last_no (first ∷ next ∷ rest) = last_no (next ∷ rest)

-- the circuit with its first gates alone
abbrev pub first_gates : Net → ℕ → Net
first_gates net count = record { inputs = net.inputs; gates = take count net.gates }

-- how many guards belong to the assumptions
abbrev pub assumed_guards : Walked → ℕ
assumed_guards w = length w.guards - length w.path

-- the walk back at its last question answered with no, where this path ends with yes: the gates and the guards that stood
-- when it was asked, and the guard of yes
abbrev pub back_at : Walked → List Bool → Walked
back_at w path = record w {
  net = first_gates w.net (last_no w.noes).gates;
  path = path;
  guards = take (assumed_guards w + (length path - 1)) w.guards ++ (last_no w.noes).ask ∷ [];
  next = None;
  noes = take (length w.noes - 1) w.noes;
}

-- the walk after going back
abbrev pub back_from : Walked → Walked
back_from w = elim (next_path w.path) [
  | Some path ↦ back_at w path
  | None ↦ w
]

-- the guards of a new walk: one for each assumption of its problem, in their order, which means that it holds
abbrev pub AreAssumptions : Walked → Type 0
AreAssumptions w = (s : Data) → in_range w.problem s ≡ true → map (eval w.net (bits w.problem s)) w.guards ≡ map (λ a. holds a s) w.problem.assumed

-- ---- gates

-- the gates that assumptions, both runs line by line, and the difference of both ends may take
abbrev pub most_gates : Problem → ℕ
most_gates p = (2 * p.steps + 1) * 2 ^ 18 + 2 ^ 14
