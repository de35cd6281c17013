-- Where a walk stands.
use Rattle.std.specs.Prelude.{◌≡◌, ◌⊎◌, ◌&&◌, ℕ, ◌<◌, ◌≤◌, suc, not, nat_le, if◌then◌else◌, Bool, true, false, List, [], ◌∷◌, ◌++◌, length, map, take, drop, is_some, Option, Some, None, All, AllPairs}
use Rattle.hp_model.specs.declared.End.{End}
use Rattle.hp_model.specs.State.{Control, Data}
use Rattle.hp_model.specs.Questions.{Question, next_question}
use Rattle.hp_control.specs.SoFar.{AreSoFar}
use Rattle.jd_circuit.specs.declared.literals.Lit.{Lit}
use Rattle.jd_circuit.specs.Net.{Net, IsLit, variables, eval}
use Rattle.jd_model.specs.Problems.{Problem, free_bits, bits, nibble_count}
use Rattle.jd_model.specs.Seen.{agree, first_control, seen}
use Rattle.jd_model.specs.Problems.{in_range, allows}
use Rattle.jd_books.specs.Leaves.{all_hold}
use Rattle.jd_books.specs.Paths.{line_questions, AsksAfter, OverAfter, IsWalked, begins, answers_of_start}
use Rattle.jd_books.specs.Walks.{OpenQuestion, IsTaken, Comes, IsOnWay, IsOver, routine_of, seen_as}
use Rattle.jd_content.specs.declared.content.SymContent.{SymContent}
use Rattle.jd_content.specs.Meaning.{data_on}
use Rattle.jd_symbolic.specs.declared.machine.SymMachine.{SymMachine}
use Rattle.jd_symbolic.specs.Machine.{val_of, Stands, state_of}
use Rattle.jd_difference.specs.Ends.{IsOfRun}
use Rattle.jd_walk.specs.declared.runs.Position.{Position}
use Rattle.jd_walk.specs.declared.runs.Reach.{Reach}
use Rattle.jd_walk.specs.declared.runs.Reach.TheVariants.{Ask, Over}
use Rattle.jd_walk.specs.declared.places.Next.{Next}
use Rattle.jd_walk.specs.declared.places.Next.TheVariants.{Ask as AskNext, Done as DoneNext}
use Rattle.jd_walk.specs.declared.places.RunEnd.{RunEnd}
use Rattle.jd_walk.specs.declared.places.FirstEnd.{FirstEnd}
use Rattle.jd_walk.specs.declared.places.Saved.{Saved}
use Rattle.jd_walk.specs.NextLine.{StandsAtLine, nibbles_of}
use Rattle.jd_walk.specs.Walked.{AnsweredNo, is_done}

-- a circuit whose inputs are the free bits of a start
pub record IsFor (p : Problem) (net : Net) : Type 0 where
  pub inputs : net.inputs ≡ free_bits p

-- the data that literals mean from a start
abbrev pub data_at : Problem → Net → SymContent → Data → Data
data_at p net content s = data_on (val_of net (bits p s)) content

-- where a line asks nothing more, the answers are all that it asks for
abbrev pub IsReady : Control → List Bool → Type 0
IsReady c given = next_question (line_questions c) given ≡ None → IsTaken c given

-- the machine of a run, at a line to whose questions the end of the path has the answers so far
pub record IsPlaced (net : Net) (path : List Bool) (at : Position) : Type 0 where
  pub machine : StandsAtLine net at.machine
  pub from : at.from ≤ length path
  pub so_far : AreSoFar (line_questions (state_of at.machine)) (drop at.from path)

-- a run stands here after a path
pub record IsAt (p : Problem) (second : Bool) (net : Net) (path : List Bool) (at : Position) : Type 0 where
  pub way : IsOnWay p second path (take at.from path) (drop at.from path) at.left (state_of at.machine) (data_at p net at.machine.content)
  pub ready : IsReady (state_of at.machine) (drop at.from path)
  pub none_left : at.left ≡ 0 → drop at.from path ≡ []

-- a literal means the next answer of each start that comes here
pub record IsAsk (p : Problem) (net : Net) (path : List Bool) (l : Lit) : Type 0 where
  pub asks : AsksAfter p path
  pub inside : IsLit (variables net) l
  pub means : (s : Data) → Comes p path s → begins (path ++ true ∷ []) (answers_of_start p s) ≡ eval net (bits p s) l
  pub means_not : (s : Data) → Comes p path s → begins (path ++ false ∷ []) (answers_of_start p s) ≡ not (eval net (bits p s) l)

abbrev pub IsReached : Problem → Bool → Net → List Bool → Position → Reach → Type 0
IsReached p second net path at (Ask l) = IsAt p second net path at × (0 < at.left) × ((q : Question) × OpenQuestion (state_of at.machine) (drop at.from path) q) × IsAsk p net path l
IsReached p second net path at (Over end) = IsOver p second path end (data_at p net at.machine.content)

-- after a line, or at a question, a run is placed again. After its end the machine alone stands
abbrev pub StandsAfter : Net → List Bool → Position → Option Reach → Type 0
StandsAfter net path at None = IsPlaced net path at
StandsAfter net path at (Some (Ask l)) = IsPlaced net path at
StandsAfter net path at (Some (Over end)) = Stands net at.machine

-- the run goes on, or has come to where it stops
abbrev pub IsTurned : Problem → Bool → Net → List Bool → Position → Option Reach → Type 0
IsTurned p second net path at None = IsAt p second net path at
IsTurned p second net path at (Some reach) = IsReached p second net path at reach

-- ---- both runs

-- the first run's end from a start that comes here
pub record IsFirst (p : Problem) (net : Net) (path : List Bool) (first : RunEnd) : Type 0 where
  pub inside : IsOfRun p net first.content
  pub ends : (s : Data) → Comes p path s → seen p p.first s ≡ seen_as first.end (data_at p net first.content s)

abbrev pub FirstHolds : Problem → Net → List Bool → Option RunEnd → Type 0
FirstHolds p net path None = Unit {0}
FirstHolds p net path (Some first) = IsFirst p net path first

-- a walk has come to a path, with the literals of the assumptions and a guard for each answer
pub record IsSpot (p : Problem) (net : Net) (path : List Bool) (assumed guards : List Lit) : Type 0 where
  pub inputs : IsFor p net
  pub walked : IsWalked p path
  pub inside : All (IsLit (variables net)) (assumed ++ guards)
  pub count : length guards ≡ length path
  pub guarded : (s : Data) → in_range p s ≡ true
      → all_hold net (assumed ++ guards) (bits p s) ≡ (allows p s && begins path (answers_of_start p s))

-- and a run stands there: the second where the first has ended
pub record IsRun (p : Problem) (net : Net) (path : List Bool) (first : Option RunEnd) (at : Position) : Type 0 where
  pub placed : IsPlaced net path at
  pub memory : nibbles_of at.machine ≡ nibble_count p
  pub run : IsAt p (is_some first) net path at
  pub first_end : FirstHolds p net path first

-- the machine with which the run of the first routine begins, or of the second
pub record IsBegun (p : Problem) (second : Bool) (net : Net) (m : SymMachine) : Type 0 where
  pub control : state_of m ≡ first_control p (routine_of p second)
  pub machine : StandsAtLine net m
  pub memory : nibbles_of m ≡ nibble_count p
  pub means : (s : Data) → in_range p s ≡ true → data_at p net m.content s ≡ s

-- what `next` said here
pub record IsAskHere (p : Problem) (net : Net) (path : List Bool) (at : Position) (l : Lit) : Type 0 where
  pub some_left : 0 < at.left
  pub question : Question
  pub is_open : OpenQuestion (state_of at.machine) (drop at.from path) question
  pub ask : IsAsk p net path l

pub record IsDoneHere (p : Problem) (net : Net) (path : List Bool) (l : Lit) : Type 0 where
  pub over : OverAfter p path
  pub inside : IsLit (variables net) l
  pub differs : (s : Data) → Comes p path s → eval net (bits p s) l ≡ not (agree p s)

abbrev pub NextHolds : Problem → Net → List Bool → Position → Option Next → Type 0
NextHolds p net path at None = Unit {0}
NextHolds p net path at (Some (AskNext l)) = IsAskHere p net path at l
NextHolds p net path at (Some (DoneNext l)) = IsDoneHere p net path l

-- both runs are over: how the first ended, and how the second did, whose machine is still there
pub record AreOver (p : Problem) (net : Net) (path : List Bool) (first : RunEnd) (at : Position) (last : Option End) : Type 0 where
  pub first_end : IsFirst p net path first
  pub second_end : IsOver p true path last (data_at p net at.machine.content)
  pub stands : Stands net at.machine

abbrev pub AreOverAt : Problem → Net → List Bool → Option RunEnd → Position → Option End → Type 0
AreOverAt p net path None at last = ⊥
AreOverAt p net path (Some first) at last = AreOver p net path first at last

-- they are where `next` said so
abbrev pub EndsHold : Problem → Net → List Bool → Option RunEnd → Position → Option End → Option Next → Type 0
EndsHold p net path first at last None = Unit {0}
EndsHold p net path first at last (Some (AskNext l)) = Unit {0}
EndsHold p net path first at last (Some (DoneNext l)) = AreOverAt p net path first at last

-- ---- questions answered with no

-- the places of the noes of a path, counted from a number on
abbrev pub noes_from : ℕ → List Bool → List ℕ
noes_from n [] = []
noes_from n (b ∷ path) = elim b [ true ↦ noes_from (suc n) path | false ↦ n ∷ noes_from (suc n) path ]

abbrev pub noes : List Bool → List ℕ
noes path = noes_from 0 path

-- the first run's end, where the second run had begun at a place of the path
abbrev pub first_at : ℕ → Option FirstEnd → Option RunEnd
first_at k None = None
first_at k (Some f) = if nat_le f.path k then Some f.run else None

abbrev pub net_at : Net → ℕ → Net
net_at net mark = record { inputs = net.inputs; gates = take mark net.gates }

-- how many gates stood at a question answered with no, and its literal
abbrev pub no_of : Saved → AnsweredNo
no_of s = record { gates = s.mark.gates; ask = s.ask }

-- a question answered with no, with the walk as it stood there
pub record IsSaved (p : Problem) (net : Net) (path : List Bool) (assumed guards : List Lit) (first : Option FirstEnd) (s : Saved) : Type 0 where
  pub inside : s.at < length path
  pub mark : s.mark.gates ≤ length net.gates
  pub spot : IsSpot p (net_at net s.mark.gates) (take s.at path) assumed (take s.at guards)
  pub run : IsRun p (net_at net s.mark.gates) (take s.at path) (first_at s.at first) s.position
  pub asked : IsAskHere p (net_at net s.mark.gates) (take s.at path) s.position s.ask

-- the first run's end, where it is over, and where the walk has gone back to a place
abbrev pub end_of : Option FirstEnd → Option RunEnd
end_of None = None
end_of (Some f) = Some f.run

abbrev pub back_to : ℕ → Option FirstEnd → Option FirstEnd
back_to k None = None
back_to k (Some f) = if nat_le f.path k then Some f else None

abbrev pub IsWithin : ℕ → Option FirstEnd → Type 0
IsWithin k None = Unit {0}
IsWithin k (Some f) = f.path ≤ k

-- the first run's end stays, or comes where the path ends
abbrev pub ComesAt : ℕ → Option FirstEnd → Type 0
ComesAt k None = ⊥
ComesAt k (Some f) = f.path ≡ k

abbrev pub FirstGoes : ℕ → Option FirstEnd → Option FirstEnd → Type 0
FirstGoes k old new = (new ≡ old) ⊎ ((old ≡ None) × ComesAt k new)

-- all that a walk keeps. Where both runs are over, no run stands anywhere
pub record IsWalk (p : Problem) (net : Net) (path : List Bool) (assumed guards : List Lit) (saved : List Saved) (first : Option FirstEnd) (at : Position) (next : Option Next) : Type 0 where
  pub spot : IsSpot p net path assumed guards
  pub run : is_done next ≡ false → IsRun p net path (end_of first) at
  pub said : NextHolds p net path at next
  pub within : IsWithin (length path) first
  pub kept : All (IsSaved p net path assumed guards first) saved
  pub at_noes : map (λ s. s.at) saved ≡ noes path
  pub marks : AllPairs (λ a b. a.mark.gates ≤ b.mark.gates) saved
