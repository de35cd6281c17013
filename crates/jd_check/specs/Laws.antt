-- What follows from a check's answers.
use Rattle.std.specs.Prelude.{◌≡◌, Bool, true, false, List, []}
use Rattle.jd_model.specs.Problems.{Problem}
use Rattle.jd_trees.specs.Trees.{Tree}
use Rattle.jd_books.specs.Leaves.{Leaf}
use Rattle.jd_books.specs.Outcomes.{AllAgree}
use Rattle.jd_check.specs.declared.checked.Checked.{Checked}
use Rattle.jd_check.specs.declared.checked.Checked.TheVariants as c
use Rattle.jd_check.specs.Runs.{IsChecked}

abbrev pub is_equal : Checked → Bool
is_equal (c.Equal book) = true
is_equal _ = false

-- the book of an answer, where it has one
abbrev pub book_of : Checked → List Leaf
book_of (c.Equal book) = book
book_of (c.Shape path) = []
book_of (c.Bad book path line cause) = book
book_of (c.More book path) = book

-- where Equal is answered, all allowed starts agree
abbrev pub Sound : Type 0
Sound = (p : Problem) (tree : Tree) (answer : Checked) → IsChecked p tree answer → is_equal answer ≡ true → AllAgree p

-- a tree has one right answer with each book
abbrev pub OneRightAnswer : Type 0
OneRightAnswer = (p : Problem) (tree : Tree) (a b : Checked) → IsChecked p tree a → IsChecked p tree b → book_of a ≡ book_of b → a ≡ b
