-- The leaves of the judge, their clauses, and what makes a leaf and a book faithful.
use Rattle.std.specs.Prelude.{◌≡◌, ℕ, suc, ◌+◌, Bool, true, not, ◌&&◌, List, [], ◌∷◌, ◌++◌, length, map, ℤ, All}
use Rattle.std.specs.List.{list_all}
use Rattle.hp_model.specs.State.{Data}
use Rattle.jd_circuit.specs.declared.literals.Lit.{Lit}
use Rattle.jd_circuit.specs.declared.literals.Lit.TheVariants.{Const}
use Rattle.jd_circuit.specs.declared.literals.Gate.{Gate}
use Rattle.jd_circuit.specs.Net.{Net, eval, IsLit, IsWired}
use Rattle.jd_model.specs.Problems.{Problem, bits, free_bits}
use Rattle.jd_model.specs.Problems.{in_range, allows}
use Rattle.jd_model.specs.Seen.{agree}
use Rattle.jd_trees.specs.declared.Kind.{Kind}
use Rattle.jd_trees.specs.declared.Kind.TheVariants.{Whole, Cut}
use Rattle.jd_books.specs.Paths.{answers_of_start, begins, IsWalked, OverAfter}
use Rattle.jd_books.specs.Clauses.{gates_clauses, truths_clauses}
use Rattle.jd_trees.specs.Trees.{Tree}
use Rattle.jd_books.specs.Trees.{Place, places}

pub record Leaf : Type 0 where
  pub path : List Bool
  pub inputs : ℕ
  pub gates : List Gate
  pub guards : List Lit
  pub diff : Lit
  pub kind : Kind

-- the clauses of a leaf in their order
abbrev pub clauses_of : Leaf → List (List ℤ)
clauses_of l = gates_clauses (suc l.inputs) l.gates ++ truths_clauses (l.guards ++ l.diff ∷ [])

abbrev pub net_of : Leaf → Net
net_of l = record { inputs = l.inputs; gates = l.gates }

-- whether literals are all true on some bits
abbrev pub all_hold : Net → List Lit → List Bool → Bool
all_hold net ls bs = list_all (eval net bs) ls

abbrev pub guards_hold : Leaf → List Bool → Bool
guards_hold l bs = all_hold (net_of l) l.guards bs

-- what the type of a leaf keeps: gates in their order, and guards and `diff` of the circuit
pub record IsLeaf (l : Leaf) : Type 0 where
  pub gates : IsWired l.inputs l.gates
  pub literals : All (IsLit (l.inputs + length l.gates)) (l.guards ++ l.diff ∷ [])

-- what is asked of each allowed start, as that both routines agree
abbrev pub Claim : Type 0
Claim = Data → Bool

-- what a leaf's `diff` means from a start that comes to it: the claim is false
pub record IsWholeAt (p : Problem) (claim : Claim) (l : Leaf) (s : Data) : Type 0 where
  pub over : OverAfter p l.path
  pub differs : eval (net_of l) (bits p s) l.diff ≡ not (claim s)

pub record IsFaithfulTo (p : Problem) (claim : Claim) (l : Leaf) : Type 0 where
  pub inputs : l.inputs ≡ free_bits p
  pub leaf : IsLeaf l
  pub walked : IsWalked p l.path
  pub guards : (s : Data) → in_range p s ≡ true → guards_hold l (bits p s) ≡ (allows p s && begins l.path (answers_of_start p s))
  pub whole : l.kind ≡ Whole → (s : Data) → in_range p s ≡ true → guards_hold l (bits p s) ≡ true → IsWholeAt p claim l s
  pub cut : l.kind ≡ Cut → l.diff ≡ Const true

-- one faithful leaf for each of some places, in their order
pub record IsBookTo (p : Problem) (claim : Claim) (at : List Place) (book : List Leaf) : Type 0 where
  pub paths : map (λ l. l.path) book ≡ map (λ place. place.path) at
  pub kinds : map (λ l. l.kind) book ≡ map (λ place. place.kind) at
  pub faithful : All (IsFaithfulTo p claim) book

-- ---- where both routines are to agree

abbrev pub IsFaithful : Problem → Leaf → Type 0
IsFaithful p = IsFaithfulTo p (agree p)

abbrev pub IsBookOf : Problem → List Place → List Leaf → Type 0
IsBookOf p = IsBookTo p (agree p)

-- one faithful leaf for each leaf and cut of a tree, in preorder
abbrev pub IsFaithfulBook : Problem → Tree → List Leaf → Type 0
IsFaithfulBook p tree book = IsBookOf p (places tree) book
