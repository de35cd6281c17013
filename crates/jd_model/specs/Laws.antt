-- What is proved of the definitions beyond the worked examples.
use Rattle.std.specs.Prelude.{◌≡◌, ℕ, true, List, length, Ok}
use Rattle.hp_model.specs.State.{Data}
use Rattle.jd_model.specs.Assembly.{IsRoutine, assembled, listing, routine_of_codes, codes_text}
use Rattle.jd_model.specs.Problems.{Problem, IsProblem, allows, AreBitsOfStarts}
use Rattle.jd_model.specs.ProblemTexts.{problem_of}
use Rattle.jd_model.specs.ProblemWriter.{problem_lines, problem_text}
use Rattle.jd_model.specs.StartTexts.{start_of_text, start_text}

-- a routine that is written reads back
pub record RoutinesReadBack : Type 0 where
  pub listings : (routine : List ℕ) → IsRoutine routine → assembled (listing routine) ≡ Ok routine
  pub texts_of_codes : (routine : List ℕ) → IsRoutine routine → routine_of_codes (codes_text routine) ≡ Ok routine

-- a problem that is written reads back, and its text has no further lines
abbrev pub ProblemsReadBack : Type 0
ProblemsReadBack = (p : Problem) → IsProblem p → problem_of (problem_text p) ≡ Ok (p, length (problem_lines p))

-- a start that is written reads back
abbrev pub StartsReadBack : Type 0
StartsReadBack = (p : Problem) (s : Data) → IsProblem p → allows p s ≡ true → start_of_text p (start_text s) ≡ Ok s

-- the free bits of a start in range and the start of some bits are inverse
abbrev pub BitsOfStarts : Type 0
BitsOfStarts = (p : Problem) → IsProblem p → AreBitsOfStarts p
