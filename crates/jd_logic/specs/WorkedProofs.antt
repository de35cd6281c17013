-- Worked inputs of the command `lrat`, and what it answers to each.
use Rattle.std.specs.Prelude.{◌≡◌, ℕ, List, ◌++◌, codes}
use Rattle.jd_logic.specs.LratCommand.{lrat, answer}

-- an input is answered by this line and status
abbrev pub Answers : List ℕ → List ℕ → ℕ → Type 0
Answers input text status = lrat input ≡ answer text status

-- the clauses that have no model in two variables
abbrev pub four_clauses : List ℕ
four_clauses = codes "p cnf 2 4\n1 2 0\n-1 2 0\n1 -2 0\n-1 -2 0\n"

pub record WorkedProofs : Type 0 where
  pub refuted : Answers (four_clauses ++ codes "5 2 0 1 2 0\n6 0 5 3 4 0\n") (codes "refuted") 0
  pub not_finished : Answers (four_clauses ++ codes "5 2 0 1 2 0\n") (codes "not refuted") 9
  pub after_deletion : Answers (four_clauses ++ codes "5 2 0 1 2 0\n5 d 1 2 0\n6 0 5 3 4 0\n") (codes "refuted") 0
  pub no_clauses : Answers (codes "p cnf 0 0") (codes "not refuted") 9
  pub given_empty_clause : Answers (codes "p cnf 0 1\n0\n") (codes "refuted") 0
  -- a deletion doesn't undo it
  pub empty_clause_deleted : Answers (codes "p cnf 0 1\n0\n2 d 1 0\n") (codes "refuted") 0
  pub deletion_of_none : Answers (codes "p cnf 0 0\n1 d 0\n") (codes "not refuted") 9
  -- hints after the conflict aren't looked at
  pub hints_after_conflict : Answers (four_clauses ++ codes "5 2 0 1 2 -9 99 0\n6 0 5 3 4 0\n") (codes "refuted") 0
  pub literal_repeated : Answers (codes "p cnf 2 3\n1 1 0\n-1 2 2 0\n-2 -1 -2 0\n4 0 1 2 3 0\n") (codes "refuted") 0
  -- the clause itself makes a literal and its negation true, and that alone is no conflict
  pub tautology : Answers (codes "p cnf 1 0\n1 1 -1 0 0\n") (codes "bad - 1 NoConflict") 9

pub record WorkedFaults : Type 0 where
  pub hint_left_out : Answers (four_clauses ++ codes "5 2 0 1 2 0\n6 0 5 3 0\n") (codes "bad - 2 NoConflict") 9
  pub deleted_clause : Answers (four_clauses ++ codes "5 2 0 1 2 0\n5 d 1 2 0\n6 0 1 3 4 0\n") (codes "bad - 3 NoClause 1") 9
  pub negative_hint : Answers (four_clauses ++ codes "5 2 0 -1 2 0\n") (codes "bad - 1 RatLine") 9
  pub id_given : Answers (four_clauses ++ codes "4 2 0 1 2 0\n") (codes "bad - 1 IdOrder") 9
  -- also of a clause that was deleted
  pub id_deleted : Answers (four_clauses ++ codes "5 2 0 1 2 0\n1 d 5 0\n5 2 0 1 2 0\n") (codes "bad - 3 IdOrder") 9
  pub two_literals_open : Answers (four_clauses ++ codes "5 0 1 0\n") (codes "bad - 1 NotUnit 1") 9
  pub no_hints : Answers (codes "p cnf 0 1\n0\n2 0 0\n") (codes "bad - 1 NoConflict") 9
  pub deleted_twice : Answers (four_clauses ++ codes "1 d 1 2 1 0\n") (codes "bad - 1 NoClause 1") 9
  -- lines are still checked
  pub after_refutation : Answers (codes "p cnf 0 1\n0\n2 0 1 0\n3 0 7 0\n") (codes "bad - 2 NoClause 7") 9
  -- the grammar comes first
  pub grammar_first : Answers (four_clauses ++ codes "4 2 0 1 2 0\n5 2 0 1 2\n") (codes "bad line 7") 4

pub record WorkedTexts : Type 0 where
  pub nothing : Answers (codes "") (codes "bad line 1") 4
  pub clause_over_lines : Answers (codes "p cnf 2 1\n1\n\n2\n0\n") (codes "not refuted") 9
  pub comments : Answers (codes "c x\np cnf 1 2\n1 0 -1\nc 0\n0\nc p\n3 0 1 2 0\nc\n") (codes "refuted") 0
  pub comments_not_counted : Answers (codes "c x\np cnf 1 1\n1 0\nc x\n\n2 0 1 0\n") (codes "bad - 1 NoConflict") 9
  pub tabs_and_cr : Answers (codes "p\tcnf 1 2\r\n1 0\r\n\t-1\t0\r\n3 0 1\t2 0\r\n") (codes "refuted") 0
  pub line_of_last_zero : Answers (codes "p cnf 1 1\n1 0 2\n") (codes "bad line 2") 4
  pub clause_missing : Answers (codes "p cnf 1 2\n1 0\n") (codes "bad line 3") 4
  pub literal_above : Answers (codes "p cnf 1 1\n2 0\n") (codes "bad line 2") 4
  pub minus_zero : Answers (codes "p cnf 1 1\n-0\n") (codes "bad line 2") 4
  pub leading_zero : Answers (codes "p cnf 1 1\n01 0\n") (codes "bad line 2") 4
  pub plus : Answers (codes "p cnf 1 1\n+1 0\n") (codes "bad line 2") 4
  pub most_variables : Answers (codes "p cnf 2147483647 1\n-2147483647 0\n") (codes "not refuted") 9
  pub one_variable_more : Answers (codes "p cnf 2147483648 0\n") (codes "bad line 1") 4
  pub greatest_id : Answers (codes "p cnf 0 1\n0\n9223372036854775807 0 1 0\n") (codes "refuted") 0
  pub one_id_more : Answers (codes "p cnf 0 1\n0\n9223372036854775808 0 1 0\n") (codes "bad line 3") 4
  pub greatest_literal : Answers (codes "p cnf 0 1\n0\n2 2147483647 0 1 0\n") (codes "refuted") 0
  pub one_literal_more : Answers (codes "p cnf 0 1\n0\n2 2147483648 0 1 0\n") (codes "bad line 3") 4
  pub greatest_hint : Answers (codes "p cnf 0 1\n0\n2 0 9223372036854775807 0\n") (codes "bad - 1 NoClause 9223372036854775807") 9
  pub one_hint_more : Answers (codes "p cnf 0 1\n0\n2 0 -9223372036854775808 0\n") (codes "bad line 3") 4
  pub words_after_end : Answers (codes "p cnf 0 1\n0\n2 0 1 0 3\n") (codes "bad line 3") 4
