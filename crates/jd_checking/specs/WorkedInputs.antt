-- Worked texts of a problem and a certificate, each by computing it.
use Rattle.std.specs.Prelude.{◌≡◌, ℕ, List, [], ◌∷◌, ◌++◌, codes, Ok, Err}
use Rattle.jd_model.specs.WorkedProblems.{empty_head, empty_routines}
use Rattle.jd_trees.specs.declared.Node.TheVariants.{Fork, Leaf, Cut}
use Rattle.jd_checking.specs.Inputs.{check_input}

-- two empty routines, in eleven lines
abbrev pub problem : List ℕ
problem = empty_head ++ codes "first\nsecond\nend\n"

abbrev pub IsBad : List ℕ → ℕ → Type 0
IsBad text line = check_input text ≡ Err line

pub record WorkedInputs : Type 0 where
  pub one_cut : check_input (problem ++ codes "certificate 1\ncut\nend\n") ≡ Ok (empty_routines 8, Cut [] ∷ [])
  pub two_leaves : check_input (problem ++ codes "\n\ncertificate 1\nfork\nleaf\nend\nleaf\nend") ≡ Ok (empty_routines 8, Fork ∷ Leaf [] ∷ Leaf [] ∷ [])
  pub lines_counted_on : IsBad (problem ++ codes "certificate 1\nleaf\nend\nend\n") 15
  pub unended_leaf : IsBad (problem ++ codes "certificate 1\nleaf\n") 14
  pub last_line_alone_missing : IsBad (problem ++ codes "certificate 1\nfork\ncut\nend\ncut\n") 17
  pub no_certificate : IsBad problem 12
  pub problem_first : IsBad (empty_head ++ codes "first\nsecond\nstop\ncertificate 1\ncut\nend\nend\n") 11
  pub unended_problem : IsBad (codes "problem 1\nword 8\n") 3
  pub nothing : IsBad [] 1
