-- What is answered for a source's problem and certificate.
use Rattle.std.specs.Prelude.{◌≡◌, ℕ, ◌≤◌, List, length, Option, Ok, Err}
use Rattle.hp_io.specs.Limited.{IsRest}
use Rattle.jd_model.specs.Problems.{Problem}
use Rattle.jd_trees.specs.Trees.{Tree, preorder}
use Rattle.jd_check.specs.declared.checked.Checked.{Checked as CheckedTree}
use Rattle.jd_check.specs.Runs.{IsChecked}
use Rattle.jd_checking.specs.declared.source_checked.SourceChecked.{SourceChecked}
use Rattle.jd_checking.specs.declared.source_checked.SourceChecked.TheVariants.{BadLine, Checked}
use Rattle.jd_checking.specs.Inputs.{check_input}

-- the text is a problem and the nodes of a tree, and this is what the check of the tree says
pub record IsCheckOf (bytes : List ℕ) (answer : CheckedTree) : Type 0 where
  pub problem : Problem
  pub tree : Tree
  pub read : check_input bytes ≡ Ok (problem, preorder tree)
  pub checked : IsChecked problem tree answer

abbrev pub IsSourceChecked : List ℕ → SourceChecked → Type 0
IsSourceChecked bytes (BadLine line) = check_input bytes ≡ Err line
IsSourceChecked bytes (Checked answer) = IsCheckOf bytes answer

-- the source was read to its end, within a limit, and this answers its bytes
pub record IsAnswer (limit : ℕ) (left0 left : Option (List ℕ)) (answer : SourceChecked) : Type 0 where
  pub taken : List ℕ
  pub rest : IsRest left0 left taken
  pub within : length taken ≤ limit
  pub answers : IsSourceChecked taken answer
