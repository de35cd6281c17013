-- What `check` answers for the bytes of a problem and of a certificate.
use Rattle.std.specs.Prelude.{◌≡◌, ℕ, Bool, List, [], ◌∷◌, ◌++◌, codes, decimal, Result, Ok, Err}
use Rattle.jd_logic.specs.LratCommand.{cause_text}
use Rattle.jd_model.specs.Problems.{Problem}
use Rattle.jd_trees.specs.declared.Node.{Node}
use Rattle.jd_trees.specs.Trees.{Tree, preorder}
use Rattle.jd_books.specs.Checks.{IsProved, IsUncovered, IsBadAt, IsOpenAt}
use Rattle.jd_checking.specs.Inputs.{check_input}
use Rattle.hp16c_commands.specs.declared.outcomes.Kept.{Kept}
use Rattle.hp16c_commands.specs.declared.outcomes.Kept.TheVariants as kept
use Rattle.hp16c_commands.specs.declared.outcomes.Status.{Status}
use Rattle.hp16c_commands.specs.declared.outcomes.Status.TheVariants as status
use Rattle.hp16c_commands.specs.Answers.{Answer, bad_line}
use Rattle.hp16c_commands.specs.PathTexts.{path_text}

-- a line of a name, a path and what follows
abbrev pub check_line : List ℕ → List Bool → List ℕ → List ℕ
check_line name path after = name ++ 32 ∷ path_text path ++ after ++ 10 ∷ []

-- of a problem and the certificate's tree
abbrev pub IsCheck : Problem → Tree → Status → Kept → List ℕ → Type 0
IsCheck p tree status.Done (kept.Checked book) text = IsProved p tree book × (text ≡ codes "equal\n")
IsCheck p tree status.CertRefused (kept.Shape path) text = IsUncovered p tree path × (text ≡ check_line (codes "shape") path [])
IsCheck p tree status.CertRefused (kept.Refused book path line cause) text =
    IsBadAt p tree book (record { path = path; line = line; cause = cause })
    × (text ≡ check_line (codes "bad") path (codes " " ++ decimal line ++ codes " " ++ cause_text cause))
IsCheck p tree status.CertRefused (kept.More book path) text = IsOpenAt p tree book path × (text ≡ check_line (codes "more") path [])
IsCheck p tree _ _ text = ⊥

abbrev pub IsCheckOf : Problem → Tree → Answer → Type 0
IsCheckOf p tree answer = IsCheck p tree answer.outcome.status answer.outcome.kept answer.text

abbrev pub IsChecked : Result (Problem × List Node) ℕ → Answer → Type 0
IsChecked (Ok input) answer = (tree : Tree) × (preorder tree ≡ input.1) × IsCheckOf input.0 tree answer
IsChecked (Err line) answer = answer ≡ bad_line line

abbrev pub CheckAnswers : List ℕ → Answer → Type 0
CheckAnswers bytes answer = IsChecked (check_input bytes) answer
