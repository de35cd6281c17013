-- Worked paths, trees, leaves and their lines, each by computing it.
use Rattle.std.specs.Prelude.{◌≡◌, ℕ, pos, negsuc, Bool, true, false, List, [], ◌∷◌, replicate, Some, None}
use Rattle.hp_model.specs.declared.End.TheVariants.{Return, Error}
use Rattle.hp_model.specs.Operations as ops
use Rattle.hp_model.specs.Codes.{code_of}
use Rattle.hp_model.specs.State.{Data}
use Rattle.jd_circuit.specs.declared.literals.Lit.TheVariants.{Const, Var, Not}
use Rattle.jd_circuit.specs.declared.literals.Gate.TheVariants.{And, Xor}
use Rattle.jd_logic.specs.declared.Line.TheVariants.{Derive}
use Rattle.jd_logic.specs.declared.answers.BadLine.TheVariants.{NoConflict}
use Rattle.jd_model.specs.Problems.{Problem}
use Rattle.jd_model.specs.WorkedProblems.{doubling}
use Rattle.jd_trees.specs.declared.Kind.TheVariants.{Whole, Cut}
use Rattle.jd_trees.specs.Trees.{Tree, fork_of, node_of}
use Rattle.jd_books.specs.Paths.{asking, reached, after_path, answers_of_start, begins, next_path}
use Rattle.jd_books.specs.Trees.{places, uncovered}
use Rattle.jd_books.specs.Clauses.{gate_clauses}
use Rattle.jd_books.specs.Leaves.{Leaf, clauses_of}
use Rattle.jd_books.specs.Checks.{bad_at, right_lines, log_end, first_bad, first_open}

-- ---- problems

-- one test of X against adding a number to itself
abbrev pub testing : Problem
testing = record doubling { first = code_of (ops.test ops.is_zero) ∷ [] }

-- two routines without an end
abbrev pub endless : List ℕ
endless = code_of (ops.label 0) ∷ code_of (ops.goto (ops.label_named 0)) ∷ []

abbrev pub both_endless : Problem
both_endless = record doubling { first = endless; second = endless }

-- a jump to a label that isn't there
abbrev pub erring : Problem
erring = record doubling { second = code_of (ops.goto (ops.label_named 0)) ∷ [] }

abbrev pub start_at : ℕ → Data
start_at n = record {
  x = n;
  y = 0;
  z = 0;
  t = 0;
  last = 0;
  index = 0;
  flags = replicate 6 false;
  nibbles = replicate 406 0;
}

-- ---- trees and leaves

abbrev pub whole : Tree
whole = node_of Whole []

abbrev pub cut : Tree
cut = node_of Cut []

-- one gate of two inputs is to be true beside its argument's negation
abbrev pub refutable : Leaf
refutable = record {
  path = true ∷ [];
  inputs = 2;
  gates = And (Var 1) (Not 2) ∷ [];
  guards = Var 3 ∷ Const true ∷ [];
  diff = Not 1;
  kind = Whole;
}

-- ---- what they give

pub record WorkedPaths : Type 0 where
  pub straight : after_path doubling [] ≡ reached (Some Return) []
  pub answer_left : after_path doubling (true ∷ []) ≡ reached (Some Return) (true ∷ [])
  pub asked : after_path testing [] ≡ asking
  pub answered : after_path testing (false ∷ []) ≡ reached (Some Return) []
  pub one_answer_more : after_path testing (true ∷ false ∷ []) ≡ reached (Some Return) (false ∷ [])
  pub late : after_path both_endless [] ≡ reached None []
  pub second_errs : after_path erring [] ≡ reached (Some (Error 4)) []
  pub zero_answers : answers_of_start testing (start_at 0) ≡ true ∷ []
  pub one_answers : answers_of_start testing (start_at 1) ≡ false ∷ []
  pub begun : begins (true ∷ []) (true ∷ false ∷ []) ≡ true
  pub parted : begins (true ∷ true ∷ []) (true ∷ false ∷ []) ≡ false
  pub too_long : begins (true ∷ true ∷ []) (true ∷ []) ≡ false
  pub last_no_turned : next_path (false ∷ true ∷ false ∷ true ∷ []) ≡ Some (false ∷ true ∷ true ∷ [])
  pub first_no_turned : next_path (false ∷ true ∷ []) ≡ Some (true ∷ [])
  pub no_no_left : next_path (true ∷ true ∷ []) ≡ None

pub record WorkedTrees : Type 0 where
  pub one_leaf : uncovered doubling whole ≡ None
  pub fork_without_question : uncovered doubling (fork_of whole whole) ≡ Some []
  pub leaf_at_question : uncovered testing whole ≡ Some []
  pub fork_at_question : uncovered testing (fork_of whole whole) ≡ None
  pub one_fork_more : uncovered testing (fork_of whole (fork_of whole whole)) ≡ Some (true ∷ [])
  pub cut_at_question : uncovered testing cut ≡ None
  pub cut_at_end : uncovered testing (fork_of cut whole) ≡ None
  pub in_preorder : places (fork_of cut (fork_of whole whole))
      ≡ record { path = false ∷ []; kind = Cut; log = [] } ∷ record { path = true ∷ false ∷ []; kind = Whole; log = [] }
      ∷ record { path = true ∷ true ∷ []; kind = Whole; log = [] } ∷ []

pub record WorkedLeaves : Type 0 where
  pub conjunction : gate_clauses 3 (And (Var 1) (Not 2))
      ≡ (negsuc 2 ∷ pos 1 ∷ []) ∷ (negsuc 2 ∷ negsuc 1 ∷ []) ∷ (pos 3 ∷ negsuc 0 ∷ pos 2 ∷ []) ∷ []
  pub exclusive_or : gate_clauses 3 (Xor (Var 1) (Var 2))
      ≡ (negsuc 2 ∷ pos 1 ∷ pos 2 ∷ []) ∷ (negsuc 2 ∷ negsuc 0 ∷ negsuc 1 ∷ []) ∷ (pos 3 ∷ negsuc 0 ∷ pos 2 ∷ []) ∷ (pos 3 ∷ pos 1 ∷ negsuc 1 ∷ []) ∷ []
  pub one_gate : clauses_of refutable
      ≡ (negsuc 2 ∷ pos 1 ∷ []) ∷ (negsuc 2 ∷ negsuc 1 ∷ []) ∷ (pos 3 ∷ negsuc 0 ∷ pos 2 ∷ []) ∷ (pos 3 ∷ []) ∷ (negsuc 0 ∷ []) ∷ []
  pub never_true : clauses_of (record { path = []; inputs = 0; gates = []; guards = []; diff = Const false; kind = Whole }) ≡ [] ∷ []
  pub always_true : clauses_of (record { path = []; inputs = 0; gates = []; guards = []; diff = Const true; kind = Cut }) ≡ []
  pub refuted : log_end refutable (Derive 6 [] (pos 4 ∷ pos 1 ∷ pos 5 ∷ []) ∷ []) ≡ right_lines true
  pub open_still : log_end refutable [] ≡ right_lines false
  pub hint_left_out : log_end refutable (Derive 6 [] (pos 4 ∷ pos 1 ∷ []) ∷ []) ≡ bad_at 1 NoConflict
  pub first_of_bad : first_bad (refutable ∷ []) (places (node_of Whole (Derive 6 [] (pos 4 ∷ []) ∷ []))) ≡ Some (record { path = []; line = 1; cause = NoConflict })
  pub first_of_open : first_open (refutable ∷ []) (places whole) ≡ Some []
  pub none_open : first_open (refutable ∷ []) (places (node_of Whole (Derive 6 [] (pos 4 ∷ pos 1 ∷ pos 5 ∷ []) ∷ []))) ≡ None
