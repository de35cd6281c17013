-- How many gates a walk may have. The literals of a line's questions and its step take at most 2^18 gates together, so a
-- walk has at most so many for each line done, those of the present line's questions, and 2^18 of the assumptions.
use Rattle.std.specs.Prelude.{◌≡◌, ℕ, ◌+◌, ◌-◌, ◌*◌, ◌^◌, ◌≤◌, Bool, true, false, List, length, take, is_some, Option, Some, None, All}
use Rattle.hp_model.specs.Questions.{Question}
use Rattle.jd_circuit.specs.Net.{Net, Grows}
use Rattle.jd_model.specs.Problems.{Problem}
use Rattle.jd_books.specs.Paths.{line_questions}
use Rattle.jd_symbolic.specs.Laws.{questions_gates}
use Rattle.jd_symbolic.specs.Machine.{state_of}
use Rattle.jd_walk.specs.declared.runs.Position.{Position}
use Rattle.jd_walk.specs.declared.runs.Reach.{Reach}
use Rattle.jd_walk.specs.declared.runs.Reach.TheVariants.{Ask, Over}
use Rattle.jd_walk.specs.declared.places.Next.{Next}
use Rattle.jd_walk.specs.declared.places.Next.TheVariants.{Ask as AskNext, Done as DoneNext}
use Rattle.jd_walk.specs.declared.places.FirstEnd.{FirstEnd}
use Rattle.jd_walk.specs.declared.places.Saved.{Saved}
use Rattle.jd_walk.specs.NextLine.{nibbles_of}
use Rattle.jd_walk.specs.Spots.{IsAt, IsFor, IsPlaced, end_of, first_at}

-- what the assumptions and 1,000 lines in each of two runs may take
abbrev pub all_lines : ℕ
all_lines = 2001 * 2 ^ 18

-- what the assumptions and all lines may take up to the end of the first run, or of the second
abbrev pub gates_to_end : Problem → Bool → ℕ
gates_to_end p false = (p.steps + 1) * 2 ^ 18
gates_to_end p true = (2 * p.steps + 1) * 2 ^ 18

-- what a line's first questions may take
abbrev pub gates_of_first : List Question → ℕ → ℕ
gates_of_first questions count = questions_gates (take count questions)

-- where a run stands after so many answers, there are at most so many gates that those of the lines left may still come
pub record HasRoom (most gates answers : ℕ) (at : Position) : Type 0 where
  pub going : gates + at.left * 2 ^ 18 ≤ most + gates_of_first (line_questions (state_of at.machine)) (answers - at.from)
  pub over : at.left ≡ 0 → gates ≤ most

-- the same at a question, whose literal is there before its answer, and after the run's end
abbrev pub HasRoomAfter : ℕ → ℕ → ℕ → Position → Option Reach → Type 0
HasRoomAfter most gates answers at None = HasRoom most gates answers at
HasRoomAfter most gates answers at (Some (Ask l)) = HasRoom most gates (answers + 1) at
HasRoomAfter most gates answers at (Some (Over end)) = gates ≤ most

-- where a walk stands, in the first run or in the second, or where both are over and there are at most so many gates
abbrev pub HasRoomAt : Problem → Bool → ℕ → ℕ → ℕ → Position → Option Next → Type 0
HasRoomAt p second most gates answers at None = HasRoom (gates_to_end p second) gates answers at
HasRoomAt p second most gates answers at (Some (AskNext l)) = HasRoom (gates_to_end p second) gates (answers + 1) at
HasRoomAt p second most gates answers at (Some (DoneNext l)) = gates ≤ most

-- where a question was answered with no
abbrev pub HadRoom : Problem → Option FirstEnd → Saved → Type 0
HadRoom p first s = HasRoom (gates_to_end p (is_some (first_at s.at first))) s.mark.gates (s.at + 1) s.position

-- all places of a walk. Where both runs are over, differences may have come that were made there
pub record AreRoomy (p : Problem) (gates answers : ℕ) (saved : List Saved) (first : Option FirstEnd) (at : Position) (next : Option Next) : Type 0 where
  pub here : HasRoomAt p (is_some (end_of first)) (2 ^ 29 + 2 ^ 27) gates answers at next
  pub kept : All (HadRoom p first) saved

-- what a run keeps from turn to turn
pub record IsGoing (old new : Net) (path : List Bool) (before now : Position) : Type 0 where
  pub grows : Grows old new
  pub placed : IsPlaced new path now
  pub memory : nibbles_of now.machine ≡ nibbles_of before.machine
  pub room : (most : ℕ) → HasRoom most (length old.gates) (length path) before → HasRoom most (length new.gates) (length path) now
  pub at : (p : Problem) (second : Bool) → IsFor p old → IsAt p second old path before → IsAt p second new path now
